-- Sets of lists, bit by bit.
use Rattle.std.proofs.Common.{◌≡◌, ℕ, ◌-◌, ◌*◌, ◌/◌, ◌%◌, ◌^◌, ◌<◌, ◌≤◌, min, Bool, true, false, not, ◌&&◌, ◌||◌, nat_eq, bit_and, bit_or, ap, sym, ◌∙◌, inl, inr, arith}
use Rattle.std.specs.Int.{bit_at, bit_not, trailing_zeros}
use Rattle.std.proofs.Math.Bool.{or-false}
use Rattle.std.proofs.lemmas.Bool.{cases_eq, cases_lt, eq-eqb, ne_eqb, or_right, and_right}
use Rattle.std.proofs.lemmas.Bool.Decides.{nat_tests}
use Rattle.std.proofs.lemmas.Nat.Bits.{bit_at-zero, bit_at-lt, bit_at_and, bit_at_not, bit_at_ones, bit_at_set_same, bit_at_set_other, bit_at_clear_same, bit_at_clear_other, shr_and_one, ones_shl, bit_at_mask_inside, bit_at_mask_below, bit_at-trailing_zeros}
use Rattle.std.proofs.lemmas.Nat.{and_le_r}
use mir.Syntax.{w128}
use Rattle.am_judged_lists.specs.declared.list_set.TheConstants.{ROOM}
use Rattle.am_judged_lists.proofs.ListLemmas.{and_true}
use Rattle.am_judged_lists.proofs.WordLemmas.{set_and}

-- the list at an index is in the set of these bits
abbrev pub is_in : ℕ → ℕ → Bool
is_in bits k = nat_eq (bit_at bits k) 1

-- ---- All lists, one more, or one less, and the lists of two sets.

pub in_all : (k : ℕ) → k < ROOM → is_in (2 ^ ROOM - 1) k ≡ true
in_all k h = ap (λ b. nat_eq b 1) (bit_at_ones ROOM k h)

pub is_there : (bits k : ℕ) → nat_eq (bit_and (bits / 2 ^ k) 1) 1 ≡ is_in bits k
is_there bits k = ap (λ b. nat_eq b 1) (shr_and_one bits k)

pub inserted : (bits k i : ℕ) → k < ROOM → is_in (bit_or bits (1 * 2 ^ k % 2 ^ ROOM)) i ≡ (is_in bits i || (nat_eq i k && true))
inserted bits k i h = elim (cases_eq i k) [
  | inl same ↦
      ap (λ j. is_in (bit_or bits (1 * 2 ^ k % 2 ^ ROOM)) j) same ∙ ap (λ b. nat_eq b 1) (bit_at_set_same w128 bits k h)
      ∙ sym (or_right (is_in bits i) (nat_eq i k && true) (ap (λ b. b && true) (eq-eqb i k same)))
  | inr other ↦
      ap (λ b. nat_eq b 1) (bit_at_set_other w128 bits k h i other) ∙ sym (or-false (is_in bits i))
      ∙ ap (λ b. is_in bits i || (b && true)) (sym (ne_eqb i k other))
]

pub removed : (bits k i : ℕ) → k < ROOM → i < ROOM
    → is_in (bit_and bits (bit_not w128 (1 * 2 ^ k % 2 ^ ROOM))) i ≡ (is_in bits i && (not (nat_eq i k) || false))
removed bits k i h within = elim (cases_eq i k) [
  | inl same ↦
      ap (λ j. is_in (bit_and bits (bit_not w128 (1 * 2 ^ k % 2 ^ ROOM))) j) same
      ∙ ap (λ b. nat_eq b 1) (bit_at_clear_same w128 bits k h)
      ∙ sym (and_right (is_in bits i) (not (nat_eq i k) || false) (ap (λ b. not b || false) (eq-eqb i k same)))
  | inr other ↦
      ap (λ b. nat_eq b 1) (bit_at_clear_other w128 bits k h i within other) ∙ sym (and_true (is_in bits i))
      ∙ ap (λ b. is_in bits i && (not b || false)) (sym (ne_eqb i k other))
]

pub in_first : (a b i : ℕ) → b < 2 ^ ROOM → i < ROOM → is_in (bit_and a (bit_not w128 b)) i ≡ (is_in a i && not (is_in b i))
in_first a b i fits h =
    set_and a (bit_not w128 b) i
    ∙ ap (λ c. is_in a i && c) (ap (λ n. nat_eq n 1) (bit_at_not w128 b i fits h) ∙ flipped (bit_at b i) (bit_at-lt b i))
  where
    flipped : (x : ℕ) → x < 2 → nat_eq (1 - x) 1 ≡ not (nat_eq x 1)
    flipped x h = grind (arith, nat_tests, h)

-- a number without bits is 0
pub no_bits : (bits : ℕ) → bits < 2 ^ ROOM → ((k : ℕ) → k < ROOM → is_in bits k ≡ false) → bits ≡ 0
no_bits bits fits none = elim (cases_eq bits 0) [
  | inl same ↦ same
  | inr some ↦
      let lowest = bit_at-trailing_zeros w128 bits (omega (arith, some)) fits in
      let apart : true ≡ false =
      sym (ap (λ n. nat_eq n 1) lowest.1) ∙ none (trailing_zeros w128 bits) lowest.0 in cc
]

-- ---- The first list from a place on.

abbrev pub from_place : ℕ → ℕ → ℕ
from_place bits from = bit_and bits ((2 ^ ROOM - 1) * 2 ^ from % 2 ^ ROOM)

cut : (bits from i : ℕ) → from < ROOM → bit_at (from_place bits from) i ≡ min (bit_at bits i) (bit_at (2 ^ ROOM - 2 ^ from) i)
cut bits from i h =
    ap (λ m. bit_at (bit_and bits m) i) (ones_shl ROOM from (omega (arith, h))) ∙ bit_at_and bits (2 ^ ROOM - 2 ^ from) i

at_least : (n : ℕ) → n < 2 → min n 1 ≡ n
at_least n h = omega (arith, h)

pub same_from : (bits from i : ℕ) → from < ROOM → from ≤ i → i < ROOM → bit_at (from_place bits from) i ≡ bit_at bits i
same_from bits from i h low high =
    cut bits from i h ∙ ap (min (bit_at bits i)) (bit_at_mask_inside from ROOM i low high)
    ∙ at_least (bit_at bits i) (bit_at-lt bits i)

pub none_below : (bits from i : ℕ) → from < ROOM → i < from → bit_at (from_place bits from) i ≡ 0
none_below bits from i h low =
    cut bits from i h ∙ ap (min (bit_at bits i)) (bit_at_mask_below from ROOM i low) ∙ none (bit_at bits i)
  where
    none : (n : ℕ) → min n 0 ≡ 0
    none n = omega arith

pub none_from : (bits from k : ℕ) → from_place bits from ≡ 0 → from < ROOM → from ≤ k → k < ROOM → is_in bits k ≡ false
none_from bits from k e h low high =
    ap (λ n. nat_eq n 1) (sym (same_from bits from k h low high) ∙ ap (λ n. bit_at n k) e ∙ bit_at-zero k)

-- the index of the lowest 1 from `start` on
pub record IsFirst (bits start place : ℕ) : Type 0 where
  pub from : start ≤ place
  pub within : place < ROOM
  pub found : is_in bits place ≡ true
  pub before : (k : ℕ) → start ≤ k → k < place → is_in bits k ≡ false

pub first : (bits from : ℕ) → from < ROOM → (from_place bits from ≡ 0 → ⊥) → IsFirst bits from (trailing_zeros w128 (from_place bits from))
first bits from h some =
    let ones = (2 ^ ROOM - 1) * 2 ^ from % 2 ^ ROOM in
    let fits : from_place bits from < 2 ^ ROOM = omega (arith, and_le_r bits ones) in
    let place = trailing_zeros w128 (from_place bits from) in
    let lowest = bit_at-trailing_zeros w128 (from_place bits from) (omega (arith, some)) fits in
    let past : from ≤ place = elim (cases_lt place from) [
      | inl below ↦ absurd (omega (arith, lowest.1, none_below bits from place h below))
      | inr past ↦ past
    ] in
    record {
      from = past;
      within = lowest.0;
      found = ap (λ n. nat_eq n 1) (sym (same_from bits from place h past lowest.0) ∙ lowest.1);
      before = λ k low high. ap (λ n. nat_eq n 1) (sym (same_from bits from k h low (omega (arith, high, lowest.0))) ∙ lowest.2 k high);
    }
