-- What is true of the labels of a rule, and of those of its group, is true of both together.
use Rattle.std.proofs.Common.{◌++◌, ℕ, List, [], ◌∷◌, Bool}
use Rattle.std.specs.Prelude.{not}
use Rattle.std.specs.List.{AllByRecursion, filter, list_any}
use Rattle.std.proofs.lemmas.Bool.{cond_both}
use Rattle.am_universe.specs.Text.{same_text}
use Rattle.am_alerting_rules.specs.RulesFile.{labels_left}

module _ {X : Type 0} (P : X → Type 0) where
  all_joined : (xs ys : List X) → AllByRecursion P xs → AllByRecursion P ys
      → AllByRecursion P (xs ++ ys)
  all_joined [] ys front back = back
  all_joined (x ∷ xs) ys front back = (front.0, all_joined xs ys front.1 back)

  all_kept : (test : X → Bool) (xs : List X) → AllByRecursion P xs
      → AllByRecursion P (filter test xs)
  all_kept test [] all = tt
  all_kept test (x ∷ xs) all =
      let rest = all_kept test xs all.1 in
      cond_both (test x) (x ∷ filter test xs) (filter test xs) (AllByRecursion P)
      (λ _. (all.0, rest)) (λ _. rest)

pub all_below : (P : List ℕ × List ℕ → Type 0) (own labels : List (List ℕ × List ℕ))
    → AllByRecursion P own → AllByRecursion P labels
    → AllByRecursion P (own ++ labels_left own labels)
all_below P own labels here below =
    all_joined P own (labels_left own labels) here
    (all_kept P (λ l. not (list_any (λ o. same_text o.0 l.0) own)) labels below)
