-- The lines of what alerts show of a configuration. (This project's own.)
use Rattle.std.specs.Prelude.{ℕ, ◌-◌, List, [], ◌∷◌, ◌++◌, length, map, Option, Some, None, codes}
use Rattle.std.specs.Prelude.{slice_get, Bool, ◌||◌, if◌then◌else◌}
use Rattle.std.specs.List.{filter, flat_map, enumerate_from, range_with_len, zip}
use Rattle.am_universe.specs.LabelSet.{LabelMap}
use Rattle.am_labels.specs.Matcher.{Matcher}
use Rattle.am_list_files.specs.SilencesFile.{Silence}
use Rattle.am_config.specs.ConfigFile.{Configuration, Rule}
use Rattle.am_eval.specs.World.{World}
use Rattle.am_report_texts.specs.Line.{Line, Piece, Words, Value, Word, Number, Names, Text, Path}
use Rattle.am_report_texts.specs.Line.{Matchers}
use Rattle.am_report_texts.specs.Plural.{plural}
use Rattle.am_report_texts.specs.ReceiverNames.{receiver_name}
use Rattle.am_report_texts.specs.declared.lines.Field.{Field}
use Rattle.am_report_texts.specs.declared.lines.Field.TheVariants as field_is
use Rattle.am_report_texts.specs.declared.lines.Level.{Level}
use Rattle.am_report_texts.specs.declared.lines.Level.TheVariants as level_is
use Rattle.am_lint.specs.LintLines.{Said, matchers_at, count_below, below_pieces}
use Rattle.am_lint.specs.declared.found.ReceiverFinding.{ReceiverFinding}
use Rattle.am_idle.specs.declared.rule_findings.RuleFinding.{RuleFinding}
use Rattle.am_idle.specs.declared.silences.SilenceFinding.{SilenceFinding}
use Rattle.am_firing.specs.declared.reached.Whose.{Whose}
use Rattle.am_firing.specs.declared.reached.Whose.TheVariants as whose_is
use Rattle.am_firing.specs.Unreached.{is_unreached, gets_none, is_idle}
use Rattle.am_firing.specs.Reach.{Reached, reached_by_alerts}
use Rattle.am_firing.specs.Wide.{inhibited_counts, widest, lacked_names}
use Rattle.am_firing.specs.HidesAll.{alerts_of, hides_each, is_all}

-- ---- What alerts do not reach.

-- How a line calls the alerts that are looked at; and its level. What no alerting rule reaches is a
-- finding. What the alerts of a file do not reach is a note, since others may fire later.
-- Source: own choice.
-- Example: `no alert of the file enters` is a note, and `no alert of the rules enters` a finding.
abbrev pub whose_text : Whose → List ℕ
whose_text whose_is.File = codes "file"
whose_text whose_is.Rules = codes "rules"

abbrev pub level_of : Whose → Level
level_of whose_is.File = level_is.Note
level_of whose_is.Rules = level_is.Finding

-- The line of an unreached route, among all routes; and the lines of all routes. `entered` says
-- which routes an alert enters.
-- Source: own choice.
-- Example: `note /3 unreached: "db-pager" {team="db"}: no alert of the file enters (and 8 routes
-- below)`.
abbrev pub route_line : Whose → Configuration → List Said → Said → Line
route_line whose c routes said = record {
  level = level_of whose;
  pieces = Value field_is.Path (Path said.path) ∷ Words (codes " ")
      ∷ Value field_is.Kind (Word (codes "unreached")) ∷ Words (codes ": ")
      ∷ Value field_is.Receiver (Text (receiver_name c said.receiver)) ∷ Words (codes " ")
      ∷ Value field_is.Matchers (Matchers (matchers_at c said.path))
      ∷ Words (codes ": no alert of the ") ∷ Words (whose_text whose) ∷ Words (codes " enters")
      ∷ below_pieces (count_below routes said.path);
}

abbrev pub route_lines : Whose → Configuration → (List ℕ → Bool) → List Said → List Line
route_lines whose c entered routes =
    map (route_line whose c routes) (filter (is_unreached entered) routes)

-- The line of an unreached receiver; and the lines of a receiver: none if an alert goes to it, or
-- if over every alert it is said already that no ordinary one does.
-- Source: own choice.
-- Example: `note receiver "net-pager" unreached: no alert of the file goes to it`.
abbrev pub receiver_line : Whose → Configuration → ℕ → Line
receiver_line whose c receiver = record {
  level = level_of whose;
  pieces = Words (codes "receiver ")
      ∷ Value field_is.Receiver (Text (receiver_name c receiver)) ∷ Words (codes " ")
      ∷ Value field_is.Kind (Word (codes "unreached")) ∷ Words (codes ": no alert of the ")
      ∷ Words (whose_text whose) ∷ Words (codes " goes to it") ∷ [];
}

abbrev pub receiver_lines :
    Whose → Configuration → ℕ × (Bool × Option ReceiverFinding) → List Line
receiver_lines whose c (receiver, (is_reached, finding)) =
    if is_reached || gets_none finding then [] else receiver_line whose c receiver ∷ []

-- The line of a side of the rule at a position, which has these matchers. `words` and `field` say
-- which side it is. And the lines of a side: none if an alert matches it.
-- Source: own choice.
-- Example: `note rule 3 unreached: no alert of the file matches source {severity="critcal"}`.
abbrev pub side_line : Whose → ℕ → List ℕ → Field → List Matcher → Line
side_line whose position words field matchers = record {
  level = level_of whose;
  pieces = Words (codes "rule ") ∷ Value field_is.Rule (Number position) ∷ Words (codes " ")
      ∷ Value field_is.Kind (Word (codes "unreached")) ∷ Words (codes ": no alert of the ")
      ∷ Words (whose_text whose) ∷ Words words ∷ Value field (Matchers matchers) ∷ [];
}

abbrev pub side_lines : Whose → ℕ → Bool → List ℕ → Field → List Matcher → List Line
side_lines whose position is_matched words field matchers =
    if is_matched then [] else side_line whose position words field matchers ∷ []

-- The lines of both sides of the rule at a position, with what is said of it over every alert: none
-- if it is idle.
-- Source: own choice.
-- Example: if no alert matches either side, there are two.
abbrev pub rule_lines : Whose → ℕ × (Rule × ((Bool × Bool) × Option RuleFinding)) → List Line
rule_lines whose (position, (rule, (sides, finding))) =
    if is_idle finding then []
    else side_lines whose position sides.0 (codes " matches source ") field_is.Source rule.source
    ++ side_lines whose position sides.1 (codes " matches target ") field_is.Target rule.target

-- The lines of routes, receivers and sides of rules that some alerts do not reach. What is said of
-- the routes, the receivers and the rules over every alert is given.
-- Source: own choice.
-- Example: without an alert there is one line, that of the top-level route, unless worse is said of
-- it.
abbrev pub listed_lines :
    Whose → Configuration → Reached → List (Option ReceiverFinding) → List (Option RuleFinding)
    → List Line
listed_lines whose c reached receivers rules =
    flat_map (receiver_lines whose c) (enumerate_from 0 (zip reached.receivers receivers))
    ++ flat_map (rule_lines whose) (enumerate_from 0 (zip c.rules (zip reached.sides rules)))

abbrev pub unreached_lines :
    Whose → Configuration → Reached → List Said → List (Option ReceiverFinding)
    → List (Option RuleFinding) → List Line
unreached_lines whose c reached routes receivers rules =
    route_lines whose c reached.entered routes
    ++ (if reached.is_any then listed_lines whose c reached receivers rules else [])

-- ---- Wide rules.

-- Which labels in `equal` two alerts both lack, at the end of a line, if there are any.
-- Source: own choice.
-- Example: `; both lack cluster,namespace`.
abbrev pub lacks_pieces : List (List ℕ) → List Piece
lacks_pieces [] = []
lacks_pieces (name ∷ names) =
    Words (codes "; both lack ") ∷ Value field_is.Lacks (Names (name ∷ names)) ∷ []

-- The line of the wide rule at a position: the alert that inhibits the most by it, how many these
-- are, of how many others, and the labels in `equal` that it lacks; and the lines of a rule.
-- Source: own choice.
-- Example: `note rule 5 wide: alert 111 inhibits 123 of 201 others; both lack cluster,namespace`.
abbrev pub names_lacked_at : Rule → Option LabelMap → List (List ℕ)
names_lacked_at rule None = []
names_lacked_at rule (Some alert) = lacked_names rule alert

abbrev pub wide_line : List LabelMap → ℕ → Rule → ℕ × ℕ → Line
wide_line alerts position rule found = record {
  level = level_is.Note;
  pieces = Words (codes "rule ") ∷ Value field_is.Rule (Number position) ∷ Words (codes " ")
      ∷ Value field_is.Kind (Word (codes "wide")) ∷ Words (codes ": alert ")
      ∷ Value field_is.Alert (Number found.0) ∷ Words (codes " inhibits ")
      ∷ Value field_is.Inhibited (Number found.1) ∷ Words (codes " of ")
      ∷ Value field_is.Others (Number (length alerts - 1)) ∷ Words (codes " others")
      ∷ lacks_pieces (names_lacked_at rule (slice_get alerts found.0));
}

abbrev pub wide_line_if_any : List LabelMap → ℕ → Rule → Option (ℕ × ℕ) → List Line
wide_line_if_any alerts position rule None = []
wide_line_if_any alerts position rule (Some found) = wide_line alerts position rule found ∷ []

abbrev pub wide_lines : List LabelMap → ℕ × Rule → List Line
wide_lines alerts (position, rule) =
    wide_line_if_any alerts position rule (widest (inhibited_counts rule alerts))

-- ---- Silences.

-- The line of the silence at a position that hides all alerts of a receiver, of which there are
-- this many; the lines of a silence and a receiver; and those of a silence, receiver by receiver.
-- Source: own choice.
-- Example: `note silence 1 hides all of "net-pager": 11 alerts`.
abbrev pub hiding_line : Configuration → ℕ → ℕ → ℕ → Line
hiding_line c position receiver count = record {
  level = level_is.Note;
  pieces = Words (codes "silence ") ∷ Value field_is.Silence (Number position)
      ∷ Words (codes " ") ∷ Value field_is.Kind (Word (codes "hides all"))
      ∷ Words (codes " of ")
      ∷ Value field_is.Receiver (Text (receiver_name c receiver)) ∷ Words (codes ": ")
      ∷ Value field_is.Alerts (Number count) ∷ Words (codes " alert")
      ∷ Words (plural count) ∷ [];
}

abbrev pub hiding_lines : World → ℕ × Silence → ℕ → List Line
hiding_lines w (position, silence) receiver =
    if hides_each w silence (alerts_of w receiver)
    then hiding_line w.config position receiver (length (alerts_of w receiver)) ∷ []
    else []

abbrev pub silence_lines : World → ℕ × Silence → List Line
silence_lines w silence =
    flat_map (hiding_lines w silence) (range_with_len 0 (length w.config.receivers))

-- The lines of the silence at a position, with what is said of it over every alert: none if it
-- hides each ordinary alert that has an alertname, because that says it of every receiver.
-- Source: own choice.
-- Example: an active silence with `alertname=~".+"` has none.
abbrev pub told_lines : World → ℕ × (Silence × Option SilenceFinding) → List Line
told_lines w (position, (silence, finding)) =
    if is_all finding then [] else silence_lines w (position, silence)

-- ---- All lines.

-- The lines of what the firing alerts of a world do not reach, of wide rules and of silences. What
-- is said of the routes, the receivers, the rules and the silences over every alert is given.
-- Source: own choice.
-- Example: without an alert there is one line, that of the top-level route, unless worse is said of
-- it.
abbrev pub firing_lines :
    World → List Said → List (Option ReceiverFinding) → List (Option RuleFinding)
    → List (Option SilenceFinding) → List Line
firing_lines w routes receivers rules silences =
    unreached_lines whose_is.File w.config (reached_by_alerts w) routes receivers rules
    ++ (flat_map (wide_lines w.alerts) (enumerate_from 0 w.config.rules)
    ++ flat_map (told_lines w) (enumerate_from 0 (zip w.silences silences)))
