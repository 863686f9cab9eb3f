-- The cubes of a table that pass, by the sets of its blocks.
use Rattle.std.proofs.Common.{◌≡◌, ◌⊎◌, ℕ, zero, ◌+◌, ◌-◌, ◌*◌, ◌/◌, ◌%◌, ◌<◌, ◌≤◌, suc, Bool, true, false, ◌&&◌, ◌||◌, nat_lt, nat_eq, cond, List, [], ◌∷◌, length, take, drop, slice_get, Option, Some, None, IfSome, IfNone, refl, ap, sym, ◌∙◌, inl, inr, arith}
use Rattle.std.specs.Prelude.{is_some}
use Rattle.std.specs.List.{list_any}
use Rattle.std.proofs.lemmas.Bool.{cases_eq, cases_lt, eq-eqb, ne_eqb, lt-ltb, le-ltb}
use Rattle.std.proofs.lemmas.Bool.Decides.{nat_tests}
use Rattle.std.proofs.lemmas.Map.Keys.{any_passes_from_place}
use Rattle.std.proofs.lemmas.Option.{slice_get_cases, slice_get_past}
use Rattle.am_judged_lists.specs.declared.list_set.ListSet.{ListSet}
use Rattle.am_judged_lists.specs.declared.list_set.TheConstants.{ROOM}
use Rattle.am_judged_lists.specs.ListSetView.{has}
use Rattle.am_judged_lists.specs.Cube.{MaskedLabels}
use Rattle.am_judged_lists.specs.BlockView.{IsSetOf}
use Rattle.am_judged_lists.specs.Places.{passes_if_there, is_at, NoneBetween, IsNext}
use Rattle.am_judged_lists.specs.TableView.{part_at}

-- ---- A part of a list.

from_drop : {X : Type 0} (xs : List X) (first k : ℕ) → slice_get (drop first xs) k ≡ slice_get xs (first + k)
from_drop xs zero k = grind arith
from_drop [] (suc first) k = refl
from_drop (x ∷ xs) (suc first) k =
    let same : suc (first + k) ≡ suc first + k = omega arith in
    from_drop xs first k ∙ ap (slice_get (x ∷ xs)) same

from_take : {X : Type 0} (xs : List X) (n k : ℕ) → k < n → slice_get (take n xs) k ≡ slice_get xs k
from_take xs zero k h = absurd (omega (arith, h))
from_take [] (suc n) k h = refl
from_take (x ∷ xs) (suc n) zero h = refl
from_take (x ∷ xs) (suc n) (suc k) h = from_take xs n k (omega (arith, h))

module _ (test : MaskedLabels → Bool) (cubes : List MaskedLabels) where
  pub at_part : (i k : ℕ) → k < ROOM → is_at test (part_at cubes i) k ≡ is_at test cubes (i * ROOM + k)
  at_part i k h = ap (passes_if_there test) (from_take (drop (i * ROOM) cubes) ROOM k h ∙ from_drop cubes (i * ROOM) k)

  -- cubes that a block's set leaves out do not pass
  pub none_more : (set : ListSet) (i from end : ℕ) → IsSetOf test (part_at cubes i) set → end ≤ ROOM
      → NoneBetween test cubes from (i * ROOM)
      → ((k : ℕ) → (from - i * ROOM) ≤ k → k < end → has set k ≡ false) → NoneBetween test cubes from (i * ROOM + end)
  none_more set i from end of room before none j cube low high at = elim (cases_lt j (i * ROOM)) [
    | inl earlier ↦ before j cube low earlier at
    | inr here ↦
        let k = j - i * ROOM in
        let same : i * ROOM + k ≡ j = omega (arith, here) in
        sym (ap (passes_if_there test) (ap (slice_get cubes) same ∙ at)) ∙ sym (at_part i k (omega (arith, high, room, here)))
        ∙ sym (of k) ∙ none k (omega (arith, low)) (omega (arith, high, here))
  ]

  -- the first cube of a block's set passes
  pub is_next : (set : ListSet) (i from place : ℕ) → IsSetOf test (part_at cubes i) set → place < ROOM → has set place ≡ true
      → from ≤ i * ROOM + place → NoneBetween test cubes from (i * ROOM + place) → IsNext test cubes from (i * ROOM + place)
  is_next set i from place of room there low before =
      let passes = sym (at_part i place room) ∙ sym (of place) ∙ there in
      elim ((slice_get_cases cubes (i * ROOM + place)).1) [
        | inl at ↦ record {
          after = low;
          within = at.1;
          found = λ x here. sym (ap (passes_if_there test) here) ∙ passes;
          before = before;
        }
        | inr past ↦ absurd (let apart : false ≡ true = sym (ap (passes_if_there test) past.1) ∙ passes in cc)
      ]

  -- one more block
  pub one_more_part : (set : ListSet) (i : ℕ) (k : ℕ) (old : Bool) → IsSetOf test (part_at cubes i) set
      → old ≡ (nat_lt (k / ROOM) i && is_at test cubes k)
      → cond (nat_eq (k / ROOM) i) (has set (k % ROOM)) old ≡ (nat_lt (k / ROOM) (i + 1) && is_at test cubes k)
  one_more_part set i k old of same = elim (cases_eq (k / ROOM) i) [
    | inl here ↦
        let at : i * ROOM + k % ROOM ≡ k = omega (arith, here) in
        rw (eq-eqb (k / ROOM) i here, lt-ltb (k / ROOM) (i + 1) (omega (arith, here)))
        (of (k % ROOM) ∙ at_part i (k % ROOM) (omega arith) ∙ ap (is_at test cubes) at)
    | inr other ↦
        rw (ne_eqb (k / ROOM) i other)
        (same ∙ ap (λ b. b && is_at test cubes k) (below_too (k / ROOM) i other))
  ]
    where
      below_too : (n i : ℕ) → (n ≡ i → ⊥) → nat_lt n i ≡ nat_lt n (i + 1)
      below_too n i other = grind (arith, nat_tests, other)

  -- all blocks
  pub all_parts : (blocks i k : ℕ) → length cubes ≤ blocks * ROOM → (k / ROOM < i) ⊎ (blocks ≤ i)
      → (nat_lt (k / ROOM) i && is_at test cubes k) ≡ is_at test cubes k
  all_parts blocks i k all reached = elim (cases_lt (k / ROOM) i) [
    | inl low ↦ ap (λ b. b && is_at test cubes k) (lt-ltb (k / ROOM) i low)
    | inr past ↦
        let beyond : length cubes ≤ k = elim reached [
          | inl low ↦ absurd (omega (arith, low, past))
          | inr end ↦ omega (arith, all, end, past)
        ] in
        rw (le-ltb (k / ROOM) i past) (sym (ap (passes_if_there test) (slice_get_past cubes k beyond)))
  ]

-- ---- Whether one passes.

pub any_by_next : {X : Type 0} (test : X → Bool) (xs : List X) (o : Option ℕ) → IfSome o (IsNext test xs 0) → IfNone o (NoneBetween test xs 0 (length xs)) → is_some o ≡ list_any test xs
any_by_next test xs (Some i) next none = elim ((slice_get_cases xs i).1) [
  | inl at ↦ sym (any_passes_from_place test xs i at.0 at.2 (next.found at.0 at.2))
  | inr past ↦ absurd (omega (arith, past.0, next.within))
]
any_by_next test [] None next none = refl
any_by_next test (x ∷ xs) None next none =
    any_by_next test xs None tt (λ j y low high at. none (suc j) y (omega arith) (omega (arith, high)) at)
    ∙ sym (ap (λ b. b || list_any test xs) (none 0 x (omega arith) (omega arith) refl))
