-- The alerts of a space, and the choices that stand for them.
use Rattle.std.proofs.Common.{◌≡◌, ◌↔◌, ℕ, List, [], ◌∷◌, ◌++◌, Contains, Option, Some, None}
use Rattle.std.proofs.Common.{not, refl, sym, ap, ◌∙◌, subst, inl}
use Rattle.std.specs.Prelude.{IsTrue, IsFalse, unwrap_or}
use Rattle.std.specs.List.{list_any}
use Rattle.std.specs.FinMap.{get}
use Rattle.std.proofs.lemmas.Bool.{and_parts, both_ways, false_from_ne_true, not-true}
use Rattle.am_universe.specs.Universe.{Label, IsUniverse, sizes}
use Rattle.am_universe.specs.Choice.{IsWhole}
use Rattle.am_universe.specs.LabelSet.{LabelMap, value_of, label_set_of}
use Rattle.am_universe.proofs.ListLemmas.{IsIn, IsIn-from_Contains, Contains-from_IsIn}
use Rattle.am_labels.specs.Matcher.{Matcher, all_hold}
use Rattle.am_labels.specs.Space.{Space, is_possible, IsChoiceOf}
use Rattle.am_labels.proofs.Passing.{any_in, in_any}
use Rattle.am_config.specs.ConfigFile.{Configuration}
use Rattle.am_eval.specs.World.{World}
use Rattle.am_eval.specs.Question.{Question, satisfies, answers}
use Rattle.am_eval.specs.Routing.{ends, receivers}
use Rattle.am_eval.specs.Reaching.{EndsAt, Enters, GoesTo, SomeIs, NoneIs, IsSetOf}
use Rattle.am_eval.proofs.AnswerLaws.{answers_exact}
use Rattle.am_classes.specs.declared.alphabet.Alphabet.{Alphabet}
use Rattle.am_classes.specs.Alphabet.{IsOver}
use Rattle.am_classes.specs.Alike.{AreAlike}
use Rattle.am_classes.proofs.OverLemmas.{nil_over}
use Rattle.am_complete.specs.Complete.{about, label_texts, HasAlike, IsComplete, IsSpaceComplete}
use Rattle.am_complete.specs.Complete.{asks_only_of, matches_text, may_have}
use Rattle.am_asked.specs.Asked.{route_matchers, world_matchers, question_matchers}
use Rattle.am_complete.specs.Complete.{impossible_matchers}
use Rattle.am_complete.specs.Covering.{HasTextsOver}
use Rattle.am_classes.proofs.AlikeLemmas.{alike_itself}
use Rattle.am_complete.proofs.LabelTexts.{nameless_texts}
use Rattle.am_complete.proofs.CompleteUniverses.{alone_truth, takes_away}
use Rattle.am_every_alert.specs.EveryAlert.{IsAlert, IsAlertOf, MeetsTheSame, AreTreatedAlike}
use Rattle.am_every_alert.specs.Deciding.{coverage_matchers, asked_matchers, StandsFor}
use Rattle.am_every_alert.specs.Deciding.{deciding_matchers, AsksWhatHides}
use Rattle.am_every_alert.proofs.CompleteSpaces.{complete_space}
use Rattle.am_every_alert.proofs.StandingChoice.{standing_choice}
use Rattle.am_every_alert.proofs.UniverseAlerts.{universe_alert}
use Rattle.am_every_alert.proofs.TreatedAlike.{front_met, rest_met, same_ends, same_receivers}
use Rattle.am_every_alert.proofs.TreatedAlike.{same_possible, treated_alike, same_truth}

-- ---- A choice that meets the same of matchers.

-- the text of each label of an alert is over its alphabet, absence included
value_over : (a : Alphabet) (s : LabelMap) (name : List ℕ) → IsAlert a s
    → IsOver a (value_of s name)
value_over a s name alert = by (get s name) refl
  where
    by : (o : Option (List ℕ)) → get s name ≡ o → IsOver a (unwrap_or o [])
    by None e = nil_over a
    by (Some text) e = (alert name text e).1

-- no label of an alert has the empty name
no_value : (a : Alphabet) (s : LabelMap) → IsAlert a s → value_of s [] ≡ []
no_value a s alert = by (get s []) refl
  where
    by : (o : Option (List ℕ)) → get s [] ≡ o → unwrap_or o [] ≡ []
    by None e = refl
    by (Some text) e = absurd ((alert [] text e).0 refl)

-- a label of a possible alert may have the text that it has
possible_value : (impossible : List (List Matcher)) (alert : LabelMap) (name : List ℕ)
    → IsTrue (is_possible impossible alert)
    → IsTrue (may_have impossible name (value_of alert name))
possible_value impossible alert name possible =
    let takes = takes_away name (value_of alert name) in
    ap not (false_from_ne_true (list_any takes impossible) (λ some.
    let found = any_in takes impossible some in
    let parts = and_parts (asks_only_of name found.0)
    (matches_text (value_of alert name) found.0) found.2 in
    both_ways (list_any (all_hold alert) impossible)
    (not-true (list_any (all_hold alert) impossible) possible)
    (in_any (all_hold alert) impossible found.0 found.1
    (alone_truth alert name found.0 parts.0 ∙ parts.1))))

alert_alike : (a : Alphabet) (s : Space) (ms : List Matcher) (alert : LabelMap)
    → IsUniverse s.labels → IsSpaceComplete a s ms → IsAlertOf a s alert → (name : List ℕ)
    → HasAlike s.labels ms name (value_of alert name)
alert_alike a s ms alert h complete is (c ∷ cs) =
    complete (c ∷ cs) (λ e. cc) (value_of alert (c ∷ cs)) (value_over a alert (c ∷ cs) is.0)
    (possible_value s.impossible alert (c ∷ cs) is.1)
alert_alike a s ms alert h complete is [] =
    let here : IsIn (label_texts s.labels []) [] =
    subst (λ texts. IsIn texts []) (sym (nameless_texts s.labels h)) (inl refl) in (
      [],
      Contains-from_IsIn (label_texts s.labels []) [] here,
      subst (AreAlike (about [] ms) []) (sym (no_value a alert is.0)) (alike_itself (about [] ms) []),
    )

pub space_choice : (a : Alphabet) (s : Space) (ms : List Matcher) (alert : LabelMap)
    → IsUniverse s.labels → IsSpaceComplete a s ms → IsAlertOf a s alert
    → (c : List ℕ) × IsWhole (sizes s.labels) c × MeetsTheSame ms (label_set_of s.labels c) alert
space_choice a s ms alert h complete is =
    standing_choice s.labels ms alert h (λ m i. alert_alike a s ms alert h complete is m.name)

pub alert_choice : (a : Alphabet) (u : List Label) (ms : List Matcher) (s : LabelMap)
    → IsUniverse u → IsComplete a u ms → IsAlert a s
    → (c : List ℕ) × IsWhole (sizes u) c × MeetsTheSame ms (label_set_of u c) s
alert_choice a u ms s h complete alert =
    let space : Space = record { labels = u; impossible = [] } in
    space_choice a space ms s h (complete_space a space ms complete) (alert, refl)

-- ---- What is true of the label sets of a space that stands for its alerts is true of these.

-- a property of label sets depends only on which of some matchers they meet
abbrev pub IsToldBy : List Matcher → (LabelMap → Type 0) → Type 0
IsToldBy ms Is = (s t : LabelMap) → MeetsTheSame ms s t → Is s → Is t

pub meets_turned : (ms : List Matcher) (s t : LabelMap) → MeetsTheSame ms s t
    → MeetsTheSame ms t s
meets_turned [] s t h = tt
meets_turned (m ∷ ms) s t h = (sym h.0, meets_turned ms s t h.1)

-- each label set of a space is an alert, if the space's texts are over the alphabet
module _ (a : Alphabet) (s : Space) (h : IsUniverse s.labels) (texts : HasTextsOver a s.labels)
  where
    pub set_is_alert : (set : LabelMap) → IsSetOf s set → IsAlertOf a s set
    set_is_alert set is =
        subst (IsAlertOf a s) (sym is.2) (universe_alert a s.labels is.0 h texts, is.1.1)

    pub some_is : (Is : LabelMap → Type 0) → SomeIs (IsSetOf s) Is → SomeIs (IsAlertOf a s) Is
    some_is Is some = (some.0, set_is_alert some.0 some.1, some.2)

module _ (a : Alphabet) (s : Space) (ms : List Matcher) where
  -- some choice of the space meets the same of the matchers as an alert
  pub choice_of_alert : (alert : LabelMap) → IsUniverse s.labels
      → IsSpaceComplete a s (deciding_matchers s ms) → IsAlertOf a s alert
      → (choice : List ℕ) × IsChoiceOf s choice
      × MeetsTheSame ms (label_set_of s.labels choice) alert
  choice_of_alert alert h complete is =
      let lists = impossible_matchers s.impossible in
      let r = space_choice a s (ms ++ lists) alert h complete is in
      let set = label_set_of s.labels r.0 in
      let possible = same_possible set alert s.impossible (rest_met set alert ms lists r.2) in
      (r.0, (r.1, possible ∙ is.1), front_met set alert ms lists r.2)

  module _ (h : StandsFor a s ms) where
    pub alert_of_set : (set : LabelMap) → IsSetOf s set → IsAlertOf a s set
    alert_of_set = set_is_alert a s h.universe h.over

    pub each_over : (Is : LabelMap → Type 0) → IsToldBy ms Is
        → ((set : LabelMap) → IsSetOf s set → Is set)
        → (alert : LabelMap) → IsAlertOf a s alert → Is alert
    each_over Is told each alert is =
        let r = choice_of_alert alert h.universe h.complete is in
        let set = label_set_of s.labels r.0 in told set alert r.2 (each set (r.0, r.1, refl))

    pub some_over : (Is : LabelMap → Type 0) → SomeIs (IsSetOf s) Is → SomeIs (IsAlertOf a s) Is
    some_over = some_is a s h.universe h.over

-- ---- What no label set of the space reaches, no alert does.

-- what label sets reach depends only on which matchers of the routes they meet
module _ (c : Configuration) where
  pub ends_told : (path : List ℕ) → IsToldBy (route_matchers c.root) (EndsAt c path)
  ends_told path s t met h = subst (λ paths. Contains paths path) (same_ends s t c met) h

  pub enters_told : (path : List ℕ) → IsToldBy (route_matchers c.root) (Enters c path)
  enters_told path s t met h = (h.0, ends_told h.0 s t met h.1, h.2)

  pub goes_told : (receiver : ℕ) → IsToldBy (route_matchers c.root) (GoesTo c receiver)
  goes_told receiver s t met h =
      subst (λ all. Contains all receiver) (same_receivers s t c met) h

module _ (a : Alphabet) (s : Space) (c : Configuration) (h : IsUniverse s.labels)
    (complete : IsSpaceComplete a s (coverage_matchers s c)) (Is : LabelMap → Type 0)
    (told : IsToldBy (route_matchers c.root) Is) where
  pub none_over : NoneIs (IsSetOf s) Is → NoneIs (IsAlertOf a s) Is
  none_over none alert is has =
      let r = choice_of_alert a s (route_matchers c.root) alert h complete is in
      let set = label_set_of s.labels r.0 in
      none set (r.0, r.1, refl)
      (told alert set (meets_turned (route_matchers c.root) set alert r.2) has)

  pub none_exactly : HasTextsOver a s.labels → NoneIs (IsSetOf s) Is ↔ NoneIs (IsAlertOf a s) Is
  none_exactly texts = (none_over, λ none set is. none set (set_is_alert a s h texts set is))

-- ---- One with the same ends, and one that is an answer.

module _ (a : Alphabet) (s : Space) (alert : LabelMap) (h : IsUniverse s.labels)
    (is : IsAlertOf a s alert) where
  abbrev set_of : List ℕ → LabelMap
  set_of choice = label_set_of s.labels choice

  pub ends_of_choice : (c : Configuration) → IsSpaceComplete a s (coverage_matchers s c)
      → (choice : List ℕ) × IsChoiceOf s choice × (ends (set_of choice) c ≡ ends alert c)
      × (receivers (set_of choice) c ≡ receivers alert c)
  ends_of_choice c complete =
      let r = choice_of_alert a s (route_matchers c.root) alert h complete is in (
        r.0,
        r.1,
        same_ends (set_of r.0) alert c r.2,
        same_receivers (set_of r.0) alert c r.2,
      )

  pub answer_of_alert : (w : World) (q : Question) → IsSpaceComplete a s (asked_matchers s w q)
      → IsTrue (satisfies w q alert)
      → (choice : List ℕ) × Contains (answers s w q) choice
      × AreTreatedAlike w (set_of choice) alert
  answer_of_alert w q complete true_of_it =
      let world = world_matchers w in
      let asked = question_matchers q in
      let r = choice_of_alert a s (world ++ asked) alert h complete is in
      let set = set_of r.0 in
      let on_world = front_met set alert world asked r.2 in
      let on_routes = front_met set alert (route_matchers w.config.root) _ on_world in
      let treated = treated_alike set alert w on_world in
      let truth = same_truth set alert w on_routes q (λ asks. treated)
      (rest_met set alert world asked r.2) in
      (r.0, (answers_exact s w q r.0).1 (r.1, truth ∙ true_of_it), treated)

  -- one of a question that does not ask what hides an alert
  answer_by_routes : (w : World) (q : Question)
      → IsSpaceComplete a s
      (deciding_matchers s (route_matchers w.config.root ++ question_matchers q))
      → ¬ AsksWhatHides q → IsTrue (satisfies w q alert)
      → (choice : List ℕ) × Contains (answers s w q) choice
  answer_by_routes w q complete none true_of_it =
      let routes = route_matchers w.config.root in
      let asked = question_matchers q in
      let r = choice_of_alert a s (routes ++ asked) alert h complete is in
      let set = set_of r.0 in
      let truth = same_truth set alert w (front_met set alert routes asked r.2) q
      (λ asks. absurd (none asks)) (rest_met set alert routes asked r.2) in
      (r.0, (answers_exact s w q r.0).1 (r.1, truth ∙ true_of_it))

  false_without : (w : World) (q : Question)
      → (IsTrue (satisfies w q alert) → (choice : List ℕ) × Contains (answers s w q) choice)
      → answers s w q ≡ [] → IsFalse (satisfies w q alert)
  false_without w q some none =
      false_from_ne_true (satisfies w q alert) (λ true_of_it.
      let r = some true_of_it in
      IsIn-from_Contains [] r.0 (subst (λ xs. Contains xs r.0) none r.1))

  pub no_alert : (w : World) (q : Question) → IsSpaceComplete a s (asked_matchers s w q)
      → answers s w q ≡ [] → IsFalse (satisfies w q alert)
  no_alert w q complete =
      false_without w q (λ true_of_it.
      let r = answer_of_alert w q complete true_of_it in (r.0, r.1))

  pub no_alert_by_routes : (w : World) (q : Question)
      → IsSpaceComplete a s
      (deciding_matchers s (route_matchers w.config.root ++ question_matchers q))
      → ¬ AsksWhatHides q → answers s w q ≡ [] → IsFalse (satisfies w q alert)
  no_alert_by_routes w q complete none = false_without w q (answer_by_routes w q complete none)
