-- Pairs of choices, as one choice over twice as many labels.
use Rattle.std.proofs.Common.{◌≡◌, ℕ, ◌+◌, ◌*◌, ◌/◌, ◌%◌, ◌<◌, ◌==◌, Bool, true, false, cond, ◌||◌, List, [], ◌∷◌, length, map, get_or, refl, ap, sym, ◌∙◌, inl, inr, arith}
use Rattle.std.specs.List.{range_with_len}
use Rattle.std.proofs.lemmas.Bool.{cases_Bool, cases_eq, cases_lt, and_parts, eq-eqb, ne_eqb, eqb-true}
use Rattle.std.proofs.lemmas.List.{get_or_past, ext_get_or}
use Rattle.std.proofs.lemmas.List.FromFn.{get_or-map-range_with_len, length-map-range_with_len}
use Rattle.am_universe.proofs.ListLemmas.{AllByRecursion-each}
use Rattle.am_judged_lists.specs.declared.pairs.Side.{Side}
use Rattle.am_judged_lists.specs.declared.pairs.Side.TheVariants.{First, Second}
use Rattle.am_judged_lists.specs.Boxes.{box_permits, IsInBox}
use Rattle.am_judged_lists.specs.Pairs.{are_same_at, is_shared, place_of, seen, IsTwice}
use Rattle.am_judged_lists.proofs.ListLemmas.{all_pass, some_passes}

-- ---- Places.

-- half of a place is its label, so later labels have later places
pub place_half : (side : Side) (shared : List ℕ) (label : ℕ) → place_of side shared label / 2 ≡ label
place_half First shared label = omega arith
place_half Second shared label = elim (is_shared shared label) as (λ b. cond b (2 * label) (2 * label + 1) / 2 ≡ label) [
  | true ↦ omega arith
  | false ↦ omega arith
]

module _ (side : Side) (shared : List ℕ) (n : ℕ) (e : List ℕ) where
  pub length_seen : length (seen side shared n e) ≡ n
  length_seen = length-map-range_with_len (λ label. get_or e (place_of side shared label) 0) 0 n

  pub seen_at : (label : ℕ) → label < n → get_or (seen side shared n e) label 0 ≡ get_or e (place_of side shared label) 0
  seen_at label low = get_or-map-range_with_len (λ i. get_or e (place_of side shared i) 0) 0 n label label 0 low (omega arith)

-- what is seen of a choice of the box of pairs
pub side_inside : (b pairs : List (List Bool)) (side : Side) (shared e : List ℕ) → IsTwice b pairs → IsInBox pairs e → IsInBox b (seen side shared (length b) e)
side_inside b pairs side shared e twice h = record {
  long = length_seen side shared (length b) e;
  each = λ label low.
      let place = place_of side shared label in
      let half = place_half side shared label in
      ap (box_permits b label) (seen_at side shared (length b) e label low)
      ∙ ap (λ i. box_permits b i (get_or e place 0)) (sym half)
      ∙ sym (twice.each place (get_or e place 0)) ∙ h.each place (omega (arith, low, half, twice.long));
}

-- both sides see the same position of a shared label
pub sides_agree : (shared : List ℕ) (n : ℕ) (e : List ℕ) → are_same_at shared (seen First shared n e) (seen Second shared n e) ≡ true
sides_agree shared n e =
    let first = seen First shared n e in
    let second = seen Second shared n e in
    all_pass (λ i. get_or first i 0 == get_or second i 0) shared
    (AllByRecursion-each (λ i. (get_or first i 0 == get_or second i 0) ≡ true) shared (λ i among.
    eq-eqb (get_or first i 0) (get_or second i 0)
    (elim (cases_lt i n) [
      | inl low ↦
          let is = some_passes (λ j. j == i) shared i among (eq-eqb i i refl) in
          seen_at First shared n e i low
          ∙ ap (λ b. get_or e (cond b (2 * i) (2 * i + 1)) 0) (sym is)
          ∙ sym (seen_at Second shared n e i low)
      | inr past ↦
          get_or_past first i 0 (omega (arith, past, length_seen First shared n e))
          ∙ sym (get_or_past second i 0 (omega (arith, past, length_seen Second shared n e)))
    ])))

-- positions at a shared label
same_there : (shared c d : List ℕ) (label : ℕ) → are_same_at shared c d ≡ true → is_shared shared label ≡ true → get_or c label 0 ≡ get_or d label 0
same_there [] c d label same is = cc
same_there (i ∷ shared) c d label same is =
    let parts = and_parts (get_or c i 0 == get_or d i 0) (are_same_at shared c d) same in
    elim (cases_eq i label) [
      | inl here ↦ ap (λ k. get_or c k 0) (sym here) ∙ eqb-true (get_or c i 0) (get_or d i 0) parts.0 ∙ ap (λ k. get_or d k 0) here
      | inr other ↦ same_there shared c d label parts.1 (ap (λ b. b || is_shared shared label) (sym (ne_eqb i label other)) ∙ is)
    ]

-- ---- The pair of two choices.

-- the positions of one choice at the even labels, and those of the other at the odd ones
abbrev pub position_of_both : List ℕ → List ℕ → ℕ → ℕ
position_of_both c d place = get_or (cond (place % 2 == 0) c d) (place / 2) 0

abbrev pub both_of : ℕ → List ℕ → List ℕ → List ℕ
both_of n c d = map (position_of_both c d) (range_with_len 0 (2 * n))

module _ (n : ℕ) (c d : List ℕ) where
  both_at : (place : ℕ) → place < 2 * n → get_or (both_of n c d) place 0 ≡ position_of_both c d place
  both_at place low = get_or-map-range_with_len (position_of_both c d) 0 (2 * n) place place 0 low (omega arith)

  pub length_both : length (both_of n c d) ≡ 2 * n
  length_both = length-map-range_with_len (position_of_both c d) 0 (2 * n)

  -- it is in the box of pairs, if both are in the box
  pub both_inside : (b pairs : List (List Bool)) → IsTwice b pairs → length b ≡ n → IsInBox b c → IsInBox b d → IsInBox pairs (both_of n c d)
  both_inside b pairs twice many one two = record {
    long = length_both ∙ ap (λ m. 2 * m) (sym many) ∙ sym twice.long;
    each = λ place low.
        let half : place / 2 < length b = omega (arith, low, twice.long) in
        ap (box_permits pairs place) (both_at place (omega (arith, low, twice.long, many)))
        ∙ twice.each place (position_of_both c d place)
        ∙ elim (place % 2 == 0) as (λ x. box_permits b (place / 2) (get_or (cond x c d) (place / 2) 0) ≡ true) [
          | true ↦ one.each (place / 2) half
          | false ↦ two.each (place / 2) half
        ];
  }

  even : (i : ℕ) → position_of_both c d (2 * i) ≡ get_or c i 0
  even i = let half : 2 * i / 2 ≡ i = omega arith in rw (eq-eqb (2 * i % 2) 0 (omega arith), half) refl

  odd : (i : ℕ) → position_of_both c d (2 * i + 1) ≡ get_or d i 0
  odd i = let half : (2 * i + 1) / 2 ≡ i = omega arith in rw (ne_eqb ((2 * i + 1) % 2) 0 (λ e. omega (arith, e)), half) refl

  -- and each side sees its choice
  seen_is : (side : Side) (shared own : List ℕ) → length own ≡ n → ((i : ℕ) → i < n → position_of_both c d (place_of side shared i) ≡ get_or own i 0)
      → seen side shared n (both_of n c d) ≡ own
  seen_is side shared own long same =
      let e = both_of n c d in
      let many = length_seen side shared n e in
      ext_get_or 0 (seen side shared n e) own (many ∙ sym long) (λ i low.
      seen_at side shared n e i (omega (arith, low, many))
      ∙ both_at (place_of side shared i) (omega (arith, low, many, place_half side shared i)) ∙ same i (omega (arith, low, many)))

  pub first_seen : (shared : List ℕ) → length c ≡ n → seen First shared n (both_of n c d) ≡ c
  first_seen shared long = seen_is First shared c long (λ i low. even i)

  pub second_seen : (shared : List ℕ) → length d ≡ n → are_same_at shared c d ≡ true → seen Second shared n (both_of n c d) ≡ d
  second_seen shared long same = seen_is Second shared d long (λ i low. elim (cases_Bool (is_shared shared i)) [
    | inl is ↦ rw is (even i ∙ same_there shared c d i same is)
    | inr is_not ↦ rw is_not (odd i)
  ])
