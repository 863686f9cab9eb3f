-- The outcomes of the choices of a space are those of some alerts, if an alert with its outcome is
-- shown for each choice, and each alert has the outcome of some choice.
use Rattle.std.proofs.Common.{◌≡◌, ℕ, List, [], ◌∷◌, map, Contains, refl, sym, ◌∙◌, subst, inl, inr}
use Rattle.std.specs.List.{AllByRecursion, IsDistinct}
use Rattle.std.specs.Cmp.Lexicographic.{bytes_decides}
use Rattle.std.proofs.lemmas.Simd.{map-map}
use lib.Pointwise.{pointwise_decides}
use Rattle.am_universe.specs.LabelSet.{LabelMap, label_set_of}
use Rattle.am_universe.proofs.ListLemmas.{IsIn, IsIn-map, IsIn-unmap, IsIn-from_Contains}
use Rattle.am_universe.proofs.ListLemmas.{Contains-from_IsIn}
use Rattle.am_labels.specs.Space.{Space, all_choices, IsChoiceOf}
use Rattle.am_labels.proofs.SpaceLaws.{space_choices}
use Rattle.am_outcomes.specs.Configurations.{Configurations}
use Rattle.am_outcomes.specs.Outcomes.{AreOutcomesOf, outcome_of, outcomes_of, same_outcome}
use Rattle.am_outcomes.specs.Outcomes.{with_outcome}
use Rattle.am_outcomes.proofs.FirstsLemmas.{Decides, first_is_one, first_of_key, firsts_apart}

outcomes_decide : Decides same_outcome
outcomes_decide = pointwise_decides bytes_decides

-- what holds of the images of all items holds of all images
pub all_images : {X Y : Type 0} (P : Y → Type 0) (f : X → Y) (xs : List X)
    → ((x : X) → IsIn xs x → P (f x)) → AllByRecursion P (map f xs)
all_images P f [] each = tt
all_images P f (x ∷ xs) each =
    (each x (inl refl), all_images P f xs (λ y i. each y (inr i)))

-- a choice has the outcome of an alert
abbrev pub HasOutcomeOf : Space → Configurations → List ℕ → LabelMap → Type 0
HasOutcomeOf s k choice alert =
    outcome_of k (label_set_of s.labels choice) ≡ outcome_of k alert

module _ {C : Type 0} (s : Space) (k : Configurations) (Are : LabelMap → Type 0)
    (show : List ℕ → C) (set_of : C → LabelMap) where
  abbrev outcomes : List (List (List ℕ) × List ℕ)
  outcomes = outcomes_of s k

  abbrev with_outcomes : List (List (List ℕ) × List ℕ)
  with_outcomes = map (with_outcome s k) (all_choices s)

  abbrev pub shown : List (List ℕ) × List ℕ → List (List ℕ) × C
  shown o = (o.0, show o.1)

  abbrev IsOfAlert : List (List ℕ) × C → Type 0
  IsOfAlert o = Are (set_of o.1) × (outcome_of k (set_of o.1) ≡ o.0)

  module _ (each : (c : List ℕ) → IsChoiceOf s c
      → Are (set_of (show c)) × HasOutcomeOf s k c (set_of (show c)))
      (all : (alert : LabelMap) → Are alert
      → (c : List ℕ) × IsChoiceOf s c × HasOutcomeOf s k c alert) where
    is_of_alert : (o : List (List ℕ) × List ℕ) → IsIn outcomes o → IsOfAlert (shown o)
    is_of_alert o there =
        let from = IsIn-unmap (with_outcome s k) (all_choices s) o
        (first_is_one same_outcome with_outcomes o there) in
        let of = each from.0
        ((space_choices s from.0).0 (Contains-from_IsIn (all_choices s) from.0 from.1)) in
        subst (λ p. IsOfAlert (shown p)) from.2 (of.0, sym of.1)

    has_outcome : (alert : LabelMap) → Are alert
        → Contains (map (λ o. o.0) (map shown outcomes)) (outcome_of k alert)
    has_outcome alert is =
        let c = all alert is in
        let first = first_of_key same_outcome outcomes_decide with_outcomes (with_outcome s k c.0)
        (IsIn-map (with_outcome s k) (all_choices s) c.0
        (IsIn-from_Contains (all_choices s) c.0 ((space_choices s c.0).1 c.1))) in
        let keys : List (List (List ℕ)) = map (λ (o : List (List ℕ) × C). o.0) (map shown outcomes) in
        subst (Contains keys) (first.2 ∙ c.2)
        (Contains-from_IsIn keys first.0.0
        (IsIn-map (λ (o : List (List ℕ) × C). o.0) (map shown outcomes) (shown first.0)
        (IsIn-map shown outcomes first.0 first.1)))

    pub outcomes_are : AreOutcomesOf Are k set_of (map shown outcomes)
    outcomes_are = record {
      each = all_images IsOfAlert shown outcomes is_of_alert;
      all = has_outcome;
      once = subst (IsDistinct same_outcome)
          (sym (map-map (λ (o : List (List ℕ) × C). o.0) shown outcomes))
          (firsts_apart same_outcome outcomes_decide with_outcomes);
    }
