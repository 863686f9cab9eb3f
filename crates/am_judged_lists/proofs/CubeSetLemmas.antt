-- Sets of cubes, part by part.
use Rattle.std.proofs.Common.{◌≡◌, ℕ, ◌+◌, ◌*◌, ◌/◌, ◌%◌, ◌<◌, Bool, true, false, not, ◌||◌, ◌&&◌, get_or, refl, ap, sym, ◌∙◌, inl, inr, arith}
use Rattle.std.specs.Bool.{Decides}
use Rattle.std.proofs.lemmas.Bool.{cases_eq, false_from_ne_true}
use Rattle.am_judged_lists.specs.declared.cube_set.TheConstants.{MAX_CUBES, PARTS}
use Rattle.am_judged_lists.specs.declared.list_set.ListSet.{ListSet}
use Rattle.am_judged_lists.specs.declared.list_set.TheConstants.{ROOM}
use Rattle.am_judged_lists.specs.declared.cube_set.CubeSet.{CubeSet}
use Rattle.am_judged_lists.specs.CubeSetView.{contains, is_subset}
use Rattle.am_judged_lists.specs.ListSetView.{has}
use Rattle.am_judged_lists.proofs.ListLemmas.{each_in_row}

-- ---- All indices that a set has room for.

implied : (a b : Bool) → (not a || b) ≡ true → a ≡ true → b ≡ true
implied true b e h = e
implied false b e h = absurd (cc)

implies : (a b : Bool) → (a ≡ true → b ≡ true) → (not a || b) ≡ true
implies true b h = h refl
implies false b h = refl

pub subset_where : (a b : ℕ → Bool) → Decides (is_subset a b) ((k : ℕ) → k < MAX_CUBES → a k ≡ true → b k ≡ true)
unfolding is_subset
subset_where a b =
    let d = each_in_row (λ k. not (a k) || b k) 0 MAX_CUBES in (
      λ e k h there. implied (a k) (b k) (d.0 e k (omega arith) (omega (arith, h))) there,
      λ each. d.1 (λ k low high. implies (a k) (b k) (each k (omega (arith, high)))),
    )

-- ---- Part by part.

-- the part at an index
abbrev pub part_of : CubeSet → ℕ → ListSet
part_of set i = get_or set.parts i (record { bits = 0 })

module _ (test : ℕ → Bool) (set : CubeSet) where
  -- the test passes at each index of the first parts that is in the set
  abbrev pub PassesBefore : ℕ → Type 0
  PassesBefore i = (k : ℕ) → k / ROOM < i → contains set k ≡ true → test k ≡ true

  module _ (i : ℕ) (rest : ListSet)
      (fails : (k : ℕ) → k < ROOM → has rest k ≡ (has (part_of set i) k && not (test (i * ROOM + k)))) where
    fails_at : (k : ℕ) → k / ROOM ≡ i → has rest (k % ROOM) ≡ (contains set k && not (test k))
    fails_at k here =
        let at : i * ROOM + k % ROOM ≡ k = omega (arith, here) in
        fails (k % ROOM) (omega arith)
        ∙ (λ j. has (part_of set (sym here j)) (k % ROOM) && not (test (at j)))

    pub passes_more : PassesBefore i → ((k : ℕ) → k < ROOM → has rest k ≡ false) → PassesBefore (i + 1)
    passes_more before none k low there = elim (cases_eq (k / ROOM) i) [
      | inl here ↦ passed (contains set k) (test k) there (sym (fails_at k here) ∙ none (k % ROOM) (omega arith))
      | inr other ↦ before k (omega (arith, low, other)) there
    ]
      where
        passed : (a b : Bool) → a ≡ true → (a && not b) ≡ false → b ≡ true
        passed a true e f = refl
        passed true false e f = absurd (cc)
        passed false false e f = e

    pub one_fails : i < PARTS → (((k : ℕ) → k < ROOM → has rest k ≡ false) → ⊥) → is_subset (contains set) test ≡ false
    one_fails low some =
        false_from_ne_true (is_subset (contains set) test) (λ e. some (λ k h.
        let j = i * ROOM + k in
        let place : j / ROOM ≡ i = omega (arith, h) in
        let within : j % ROOM ≡ k = omega (arith, h) in
        ap (has rest) (sym within) ∙ fails_at j place
        ∙ refuted (contains set j) (test j) ((subset_where (contains set) test).0 e j (omega (arith, h, low)))))
      where
        refuted : (a b : Bool) → (a ≡ true → b ≡ true) → (a && not b) ≡ false
        refuted true b h = ap not (h refl)
        refuted false b h = refl

-- an index of a part
pub in_part : (set : CubeSet) (i k : ℕ) → k < ROOM → contains set (i * ROOM + k) ≡ has (part_of set i) k
in_part set i k h =
    let place : (i * ROOM + k) / ROOM ≡ i = omega (arith, h) in
    let within : (i * ROOM + k) % ROOM ≡ k = omega (arith, h) in
    λ j. has (part_of set (place j)) (within j)
