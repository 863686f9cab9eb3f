-- What becomes of the alerts of a space, under one configuration or under two that are compared, or
-- under one with silences; or whether a list of matchers matches them.
use Rattle.std.specs.Prelude.{◌≡◌, ℕ, List, [], ◌∷◌, ◌++◌, map, fold, Bool, if◌then◌else◌, Contains}
use Rattle.std.specs.List.{list_any, AllByRecursion, IsDistinct}
use lib.Pointwise.{pointwise}
use Rattle.am_universe.specs.LabelSet.{LabelMap, label_set_of}
use Rattle.am_universe.specs.Text.{same_text}
use Rattle.am_labels.specs.Matcher.{Matcher, all_hold}
use Rattle.am_labels.specs.Space.{Space, all_choices}
use Rattle.am_eval.specs.Routing.{receivers, ends}
use Rattle.am_outcomes.specs.Configurations.{Configurations, One, Pair, Silenced, Ends, Matched}
use Rattle.am_outcomes.specs.Handling.{other_options}

-- An alert is silenced by some active silences: all matchers of one of them match it.
-- Source: Alertmanager documentation 0.25, "Silences": an alert is checked whether it matches all
-- the equality or regular expression matchers of an active silence.
-- Example: without an active silence no alert is silenced.
abbrev pub is_silenced_by : LabelMap → List (ℕ × List Matcher) → Bool
is_silenced_by s silences = list_any (λ silence. all_hold s silence.1) silences

-- The list that says whether something is so: it has one item if it is, and none if it is not.
abbrev pub one_if : Bool → List ℕ
one_if is_so = if is_so then 0 ∷ [] else []

-- What becomes of an alert. Under one configuration, it is the list of its receivers, by their
-- positions. Under two, it is this list under the old one, that under the new one, and the options
-- that differ at ends with receivers of the same name. With silences, it is the list of its
-- receivers, and one that has an item exactly if the alert is silenced. Where the ends are looked
-- for, it is the list of its receivers, and then the path of each end. For a list of matchers, it
-- is one list that has an item exactly if they match the alert.
-- Source: Alertmanager configuration reference 0.25, "<route>".
-- Example: let there be one configuration. If an alert ends at two routes, and both routes have the
-- receiver at position 2, it is the one list of 2 and 2. Where the ends are looked for, and the
-- routes are `/0` and `/1`, it is the list of 2 and 2, that of 0, and that of 1.
abbrev pub outcome_of : Configurations → LabelMap → List (List ℕ)
outcome_of (One c) s = receivers s c ∷ []
outcome_of (Pair old new) s =
    receivers s old ∷ receivers s new ∷ other_options old new s ∷ []
outcome_of (Silenced c silences) s =
    receivers s c ∷ one_if (is_silenced_by s silences) ∷ []
outcome_of (Ends c) s = receivers s c ∷ ends s c
outcome_of (Matched ms) s = one_if (all_hold s ms) ∷ []

-- Outcomes are the same if all their lists are.
abbrev pub same_outcome : List (List ℕ) → List (List ℕ) → Bool
same_outcome lists others = pointwise same_text lists others

-- A list of items, each behind a key. `with_first` adds one more at the end, unless its key is
-- there already. `firsts` keeps only the first item with each key, in the same order.
-- Source: own choice.
-- Example: of an item with the key 1, one with 2 and another with 1 the first two are kept.
module _ {K A : Type 0} (same : K → K → Bool) where
  abbrev pub with_first : List (K × A) → K × A → List (K × A)
  with_first firsts one =
      if list_any (λ e. same one.0 e.0) firsts then firsts else firsts ++ one ∷ []

  abbrev pub firsts : List (K × A) → List (K × A)
  firsts all = fold with_first [] all

-- The outcomes of a space: each outcome that some choice has, with the first choice that has it, in
-- the declared order of these choices.
-- Source: own choice.
-- Example: let `team` be `db` or absent, and let alerts of the team `db` go to the receiver at
-- position 1, and others to the one at position 0. Then the outcomes are 1 with the choice 0, and 0
-- with the choice 1.
abbrev pub with_outcome : Space → Configurations → List ℕ → List (List ℕ) × List ℕ
with_outcome s k choice = (outcome_of k (label_set_of s.labels choice), choice)

abbrev pub outcomes_of : Space → Configurations → List (List (List ℕ) × List ℕ)
outcomes_of s k = firsts same_outcome (map (with_outcome s k) (all_choices s))

-- Outcomes, each with what is shown for it, are those of some alerts. What is shown is one of these
-- alerts, and has that outcome; each of these alerts has one of the outcomes; and no two of the
-- outcomes are the same.
-- Source: own choice.
-- Example: if some alerts all go to the receiver at position 1, and to no other, they have one
-- outcome, the list of 1. It is shown with one of them.
pub record AreOutcomesOf {C : Type 0} (Are : LabelMap → Type 0) (k : Configurations)
    (set_of : C → LabelMap) (outcomes : List (List (List ℕ) × C)) : Type 0 where
  pub each : AllByRecursion (λ o. Are (set_of o.1) × (outcome_of k (set_of o.1) ≡ o.0)) outcomes
  pub all : (alert : LabelMap) → Are alert
      → Contains (map (λ o. o.0) outcomes) (outcome_of k alert)
  pub once : IsDistinct same_outcome (map (λ o. o.0) outcomes)
