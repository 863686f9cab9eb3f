-- Matchers that are visited one after another, and those that are left.
use Rattle.std.proofs.Common.{◌≡◌, ℕ, ◌+◌, ◌<◌, List, ◌∷◌, ◌++◌, length, get_or, drop}
use Rattle.std.proofs.Common.{Some, fold, sym, ap, ◌∙◌}
use Rattle.std.specs.Prelude.{slice_get}
use Rattle.std.specs.List.{flat_map, enumerate_from}
use Rattle.std.proofs.lemmas.List.{at_drop_more}
use Rattle.std.proofs.lemmas.List.Sums.{fold-append}
use Rattle.am_labels.specs.Matcher.{Matcher}
use Rattle.am_universe.proofs.Members.{left_at}
use Rattle.am_config.specs.ConfigFile.{RouteTree}
use Rattle.am_complete.specs.declared.origin.Origin.{Origin}
use Rattle.am_asked.specs.Placed.{placed_at, placed_by_route}

-- what there is now, with the matchers that are left, gives what the first state gives with all
-- matchers
abbrev pub IsOnTheWay : {S : Type 0} → (S → Origin × Matcher → S) → S
    → List (Origin × Matcher) → S → List (Origin × Matcher) → Type 0
IsOnTheWay after before all now left = fold after now left ≡ fold after before all

module _ {S : Type 0} (after : S → Origin × Matcher → S) where
  -- the matchers before the others
  pub passed : (front rest : List (Origin × Matcher)) (now next whole : S)
      → next ≡ fold after now front → fold after now (front ++ rest) ≡ whole
      → fold after next rest ≡ whole
  passed front rest now next whole step before =
      ap (λ s. fold after s rest) step ∙ sym (fold-append after now front rest) ∙ before

  -- one more matcher of a list
  pub one_more_matcher : (origin : Origin) (ms : List Matcher) (i : ℕ) (m : Matcher)
      (now next whole : S) → slice_get ms i ≡ Some m → next ≡ after now (origin, m)
      → fold after now (placed_at origin (drop i ms)) ≡ whole
      → fold after next (placed_at origin (drop (i + 1) ms)) ≡ whole
  one_more_matcher origin ms i m now next whole there step before =
      ap (λ s. fold after s (placed_at origin (drop (i + 1) ms))) step
      ∙ ap (λ left. fold after now (placed_at origin left)) (sym (left_at ms i m there)) ∙ before

  -- the matchers of one more thing, from a list of things that each have matchers
  pub one_more_thing : {X : Type 0} (f : ℕ × X → List (Origin × Matcher)) (xs : List X) (i : ℕ)
      (x : X) (now next whole : S) → i < length xs → x ≡ get_or xs i x
      → next ≡ fold after now (f (i, x))
      → fold after now (flat_map f (enumerate_from i (drop i xs))) ≡ whole
      → fold after next (flat_map f (enumerate_from (i + 1) (drop (i + 1) xs))) ≡ whole
  one_more_thing {X} f xs i x now next whole lt is step before =
      let F : List X → S = λ ys. fold after now (flat_map f (enumerate_from i ys)) in
      passed (f (i, x)) (flat_map f (enumerate_from (i + 1) (drop (i + 1) xs))) now next whole step
      (ap (λ y. F (y ∷ drop (i + 1) xs)) is ∙ sym (at_drop_more F xs i x lt) ∙ before)

  -- the matchers of one more route
  pub one_more_route : (all : List (List ℕ × RouteTree)) (i : ℕ) (r : List ℕ × RouteTree)
      (now next whole : S) → slice_get all i ≡ Some r → next ≡ fold after now (placed_by_route r)
      → fold after now (flat_map placed_by_route (drop i all)) ≡ whole
      → fold after next (flat_map placed_by_route (drop (i + 1) all)) ≡ whole
  one_more_route all i r now next whole there step before =
      passed (placed_by_route r) (flat_map placed_by_route (drop (i + 1) all)) now next whole step
      (ap (λ left. fold after now (flat_map placed_by_route left)) (sym (left_at all i r there))
      ∙ before)
