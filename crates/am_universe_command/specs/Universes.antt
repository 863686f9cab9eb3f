-- What `universe` makes, and what it says about a universe. (This project's own.)
use Rattle.std.specs.Prelude.{◌≡◌, ◌⊎◌, ◌<◌, ℕ, List, [], ◌++◌, length, map, Bool, false, ⊤}
use Rattle.std.specs.Prelude.{IsTrue, string_bytes, if◌then◌else◌, Option, option_map, ◌↔◌}
use Rattle.std.specs.List.{AllByRecursion, list_all}
use Rattle.am_universe.specs.declared.kind.Kind.TheVariants as kinds
use Rattle.am_universe.specs.declared.place.Place.{Place}
use Rattle.am_universe.specs.declared.place.Place.TheVariants as places
use Rattle.am_universe.specs.LabelSet.{LabelMap}
use Rattle.am_universe.specs.Universe.{Label, sizes}
use Rattle.am_labels.specs.Matcher.{Matcher}
use Rattle.am_labels.specs.Space.{Space, all_choices}
use Rattle.am_json.specs.declared.limits.TheConstants.{MAX_FILE_BYTES}
use Rattle.am_json.specs.Pointer.{Refusal, refusal_here}
use Rattle.am_list_files.specs.UniverseFile.{FileSaysUniverse, FileHasImpossibleTexts}
use Rattle.am_eval.specs.World.{World}
use Rattle.am_eval.specs.Question.{Question}
use Rattle.am_files.specs.Faults.{later_stages}
use Rattle.am_files.specs.Promise.{Promise}
use Rattle.am_classes.specs.declared.alphabet.Alphabet.{Alphabet}
use Rattle.am_complete.specs.declared.allowed_names.AllowedNames.TheVariants as allowed_are
use Rattle.am_complete.specs.declared.label_state.LabelState.{LabelState}
use Rattle.am_complete.specs.Complete.{IsSpaceComplete, impossible_matchers}
use Rattle.am_complete.specs.AskedLabel.{AskedLabel, asked_labels}
use Rattle.am_asked.specs.Asked.{route_matchers, world_matchers, questions_matchers}
use Rattle.am_asked.specs.Placed.{placed_in_routes, placed_in_world, placed_in_questions}
use Rattle.am_asked.specs.Placed.{placed_in_lists}
use Rattle.am_asked.specs.OriginPointer.{origin_place, matcher_places}
use Rattle.am_asked.specs.Made.{IsMadeBeside, NoRoomFor, UnprovedFor}
use Rattle.am_complete.specs.LabelState.{IsSoIfNamed, is_settled, reported_names}
use Rattle.am_complete.specs.FoundState.{is_unseen}
use Rattle.am_universe_command.specs.CheckLines.{check_report}
use Rattle.am_report_texts.specs.Line.{report_text}
use Rattle.am_universe_command.specs.UniverseText.{universe_text}
use Rattle.am_universe_command.specs.declared.universe_form.UniverseForm.{UniverseForm}
use Rattle.am_universe_command.specs.UniverseInputs.{UniverseInputs, AcceptsUniverseInputs}
use Rattle.am_universe_command.specs.UniverseInputs.{universe_input_stages, HasListsIfAny}

-- ---- What is asked.

-- The matchers that decide: those of the routes, or all of a world; those of the questions; and
-- those that say what is impossible.
-- Source: own choice.
-- Example: with `--routes` the matchers of silences are not among them.
abbrev pub deciding_matchers :
    Bool → World → List Question → List (List Matcher) → List Matcher
deciding_matchers routes w questions impossible =
    (if routes then route_matchers w.config.root else world_matchers w)
    ++ (questions_matchers questions ++ impossible_matchers impossible)

-- The labels that these ask about, each with what first asks about it, in the order of the files,
-- the questions, and the impossible lists.
-- Source: own choice.
-- Example: if a route asks about `team`, a rule about `env`, and a silence about `team`, they are
-- `team`, which the route first asks about, and `env`, which the rule does.
abbrev pub deciding_labels :
    Bool → World → List Question → List (List Matcher) → List AskedLabel
deciding_labels routes w questions impossible =
    asked_labels ((if routes then placed_in_routes w.config else placed_in_world w)
    ++ (placed_in_questions questions ++ placed_in_lists impossible))

-- ---- A universe that is made.

-- A universe is made from the labels of a space, for the matchers that decide and in the order in
-- which they ask, of the form that is wanted.
abbrev pub IsMadeFor : UniverseForm → Space → World → List Question → List Label → Type 0
IsMadeFor form s w questions u =
    IsMadeBeside form.alphabet allowed_are.OfFiles form.open s
    (deciding_labels form.routes w questions s.impossible) w.alerts
    (deciding_matchers form.routes w questions s.impossible) u

-- The text is the one that is written for a universe that is made from a space, for a world and for
-- questions. `lists` are the texts of the impossible lists of the space. As a file the text says
-- that universe, with the same impossible lists, and has their texts word for word.
-- Source: own choice.
-- Example: if `team="db"` is the only matcher of a world, and there are no questions, labels and
-- impossible lists, the file says `team` with absence and `db`.
pub record IsMadeUniverse (form : UniverseForm) (s : Space) (lists : List (List ℕ)) (w : World)
    (questions : List Question) (text : List ℕ) : Type 0 where
  pub labels : List Label
  pub text_is : text ≡ universe_text labels lists
  pub says : FileSaysUniverse text (record { labels = labels; impossible = s.impossible })
  pub word_for_word : FileHasImpossibleTexts text lists
  pub made : IsMadeFor form s w questions labels

-- The inputs are accepted, and the text is that of a universe file made for what they say.
-- Source: own choice.
-- Example: if one route of a configuration asks for `team=db`, and nothing else asks about a label,
-- the file `{"labels": [{"name": "team", "values": [null, "db"]}]}` may be written.
pub record MakesUniverse (inputs : UniverseInputs) (form : UniverseForm) (text : List ℕ)
    : Type 0 where
  pub space : Space
  pub lists : List (List ℕ)
  pub world : World
  pub questions : List Question
  pub accepts : AcceptsUniverseInputs inputs space world questions
  pub has_lists : HasListsIfAny inputs.universe lists
  pub made : IsMadeUniverse form space lists world questions text

-- ---- Why no universe is made.

-- The file of the universe would have more bytes than a file may have. `lists` are the texts of the
-- impossible lists of the space. This is checked last.
-- Source: own choice.
-- Example: this is so if a matcher of a question names a text of 20 megabytes.
pub record TooLongFor (form : UniverseForm) (s : Space) (lists : List (List ℕ)) (w : World)
    (questions : List Question) (place : Place) (r : Refusal) : Type 0 where
  pub stands : place ≡ places.Universe
  pub labels : List Label
  pub made : IsMadeFor form s w questions labels
  pub long : MAX_FILE_BYTES < length (universe_text labels lists)
  pub refusal : r ≡ refusal_here kinds.Limit

-- No universe file is made for a world and questions, from a space: there is no room, a label is
-- unproved and the universe may not be open, or the file is too long.
-- Source: own choice.
-- Example: if a label is unproved and there is no room for the others, it is the `limit`.
abbrev pub IsMakingRefusal : UniverseForm → Space → List (List ℕ) → World → List Question → Place
    → Refusal → Type 0
IsMakingRefusal form s lists w questions place r =
    let asked = deciding_labels form.routes w questions s.impossible in
    NoRoomFor form.alphabet allowed_are.OfFiles s asked place r
    ⊎ (((form.open ≡ false)
    × UnprovedFor form.alphabet allowed_are.OfFiles s asked (λ l. origin_place l.first) place r)
    ⊎ TooLongFor form s lists w questions place r)

-- The inputs are accepted, and no universe file is made for what they say.
abbrev pub RefusesMaking : UniverseInputs → UniverseForm → Place → Refusal → Type 0
RefusesMaking inputs form place r =
    (s : Space) × (lists : List (List ℕ)) × (w : World) × (questions : List Question)
    × AcceptsUniverseInputs inputs s w questions × HasListsIfAny inputs.universe lists
    × IsMakingRefusal form s lists w questions place r

-- What `universe` owes.
-- Source: own choice.
-- Example: if the file of alerts is `{}` and a label is unproved, the first fault is the `shape` of
-- the alerts.
abbrev pub universe_promise : UniverseInputs → UniverseForm → Promise ⊤
universe_promise inputs form = record {
  stages = universe_input_stages inputs ++ later_stages matcher_places (RefusesMaking inputs form);
  May = λ _. MakesUniverse inputs form;
}

-- ---- A universe that is checked.

-- The text says what a space lacks for a world and for questions, for alerts whose texts are over
-- an alphabet. It has the state of each label that the space declares, and then of each other label
-- that is asked about; if the alerts that fire are known, whether none has the label; and whether
-- all label sets are impossible. What it says is true. If nothing is missing, the space is
-- complete.
-- Source: own choice.
-- Example: for a space with just `team`, whose values are `db` and `web`, and a world whose only
-- matcher is `team="db"`, it says `team complete 2`, `2 label sets` and `# complete`.
pub record IsCheckOf (a : Alphabet) (s : Space) (w : World) (questions : List Question)
    (alerts : Option (List LabelMap)) (routes : Bool) (report : List ℕ) : Type 0 where
  pub states : List LabelState
  pub names : map (λ state. string_bytes state.name) states
      ≡ reported_names s.labels (deciding_labels routes w questions s.impossible)
  pub each : AllByRecursion
      (λ state. IsSoIfNamed a s (deciding_matchers routes w questions s.impossible)
      (deciding_labels routes w questions s.impossible) (string_bytes state.name)
      state.completeness) states
  pub unseen : AllByRecursion
      (λ state. state.unseen ≡ is_unseen alerts (string_bytes state.name)) states
  pub complete : IsTrue (list_all (λ state. is_settled state.completeness) states)
      → IsSpaceComplete a s (deciding_matchers routes w questions s.impossible)
  pub all_impossible : Bool
  pub impossible : IsTrue all_impossible ↔ all_choices s ≡ []
  pub text : report ≡ report_text (check_report (sizes s.labels) all_impossible states)

-- The inputs are accepted, and the text says what the space of the universe file lacks for the
-- world and for the questions that they say.
-- Source: own choice.
-- Example: for the universe file `{"labels": [{"name": "team", "values": ["db"]}]}` and a
-- configuration with only the top-level route, the report is the lines `team unasked`,
-- `1 label sets` and `# complete`.
pub record ChecksUniverse (a : Alphabet) (inputs : UniverseInputs) (routes : Bool)
    (report : List ℕ) : Type 0 where
  pub space : Space
  pub world : World
  pub questions : List Question
  pub accepts : AcceptsUniverseInputs inputs space world questions
  pub checked : IsCheckOf a space world questions
      (option_map (λ file. world.alerts) inputs.files.alerts) routes report

-- What `check_universe` owes.
-- Source: own choice.
-- Example: if the universe file is `{}` and the configuration is not JSON, the first fault is the
-- `shape` of the universe.
abbrev pub check_promise : Alphabet → UniverseInputs → Bool → Promise ⊤
check_promise a inputs routes = record {
  stages = universe_input_stages inputs;
  May = λ _. ChecksUniverse a inputs routes;
}
