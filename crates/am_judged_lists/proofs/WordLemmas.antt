-- The positions of a mask, word by word and bit by bit.
use Rattle.std.proofs.Common.{◌≡◌, ℕ, suc, ◌+◌, ◌-◌, ◌*◌, ◌/◌, ◌%◌, ◌^◌, ◌<◌, ◌≤◌, min, Bool, true, false, not, ◌&&◌, ◌||◌}
use Rattle.std.proofs.Common.{List, ◌∷◌, length, get_or, set, replicate, nat_eq, nat_lt, bit_and, refl, ap, sym, ◌∙◌, inl, inr, arith}
use Rattle.std.specs.Int.{bit_at, bit_not, trailing_zeros}
use Rattle.std.proofs.lemmas.Bool.{cases_eq, cases_lt, and_left, eq-eqb, ne_eqb, lt-ltb, le-ltb}
use Rattle.std.proofs.lemmas.Bool.Decides.{nat_tests}
use Rattle.std.proofs.lemmas.Nat.{one_shl}
use Rattle.std.proofs.lemmas.List.{get_or_past, get_or-set_same, get_or-set_other, get_or-replicate, length-set, length-replicate}
use Rattle.std.proofs.lemmas.List.FromFn.{get_or-map-range_with_len, length-map-range_with_len}
use Rattle.std.proofs.lemmas.Nat.Bits.{bit_at-zero, bit_at-lt, bit_at_and, bit_at_not, bit_at_ones, bit_at_ones_above, bit_at-pow_same, bit_at-pow_other, bit_at-trailing_zeros}
use mir.Syntax.{w64}
use Rattle.am_judged_lists.specs.MaskView.{is_set, is_permitted, permitted_of}
use Rattle.am_judged_lists.specs.Boxes.{is_in_part}
use Rattle.am_judged_lists.specs.declared.mask.Part.{Part}
use Rattle.am_judged_lists.specs.declared.mask.TheConstants.{WORD}
use Rattle.am_judged_lists.proofs.ListLemmas.{and_true}

-- ---- The bits of one word.

-- of two bits, the lesser is 1 exactly if both are
both_ones : (x y : ℕ) → x < 2 → y < 2 → nat_eq (min x y) 1 ≡ (nat_eq x 1 && nat_eq y 1)
both_ones x y h g = grind (arith, nat_tests, h, g)

-- `a & b` has the bits that both have
pub set_and : (a b k : ℕ) → is_set (bit_and a b) k ≡ (is_set a k && is_set b k)
set_and a b k = ap (λ n. nat_eq n 1) (bit_at_and a b k) ∙ both_ones (bit_at a k) (bit_at b k) (bit_at-lt a k) (bit_at-lt b k)

-- `!b` has the bits that `b` does not have
pub set_not : (b k : ℕ) → b < 2 ^ WORD → k < WORD → is_set (bit_not w64 b) k ≡ not (is_set b k)
set_not b k fits h = ap (λ n. nat_eq n 1) (bit_at_not w64 b k fits h) ∙ flipped (bit_at b k) (bit_at-lt b k)
  where
    flipped : (x : ℕ) → x < 2 → nat_eq (1 - x) 1 ≡ not (nat_eq x 1)
    flipped x h = grind (arith, nat_tests, h)

-- 0 has no bit, and `1 << p` has one
pub none_set : (k : ℕ) → is_set 0 k ≡ false
none_set k = ap (λ n. nat_eq n 1) (bit_at-zero k)

pub one_there : (position j : ℕ) → j / WORD ≡ position / WORD → is_set (1 * 2 ^ (position % WORD) % 2 ^ WORD) (j % WORD) ≡ nat_eq j position
one_there position j at =
    let p = position % WORD in
    ap (λ w. is_set w (j % WORD)) (one_shl p WORD (omega arith)) ∙ elim (cases_eq j position) [
      | inl same ↦ ap (λ n. is_set (2 ^ p) (n % WORD)) same ∙ ap (λ n. nat_eq n 1) (bit_at-pow_same p) ∙ sym (eq-eqb j position same)
      | inr other ↦ ap (λ n. nat_eq n 1) (bit_at-pow_other p (j % WORD) (λ e. other (omega (arith, at, e)))) ∙ sym (ne_eqb j position other)
    ]

-- all positions but one
pub out_there : (j k : ℕ) → (not (nat_eq (k / WORD) (j / WORD)) || is_set (bit_not w64 (1 * 2 ^ (j % WORD) % 2 ^ WORD)) (k % WORD)) ≡ (not (nat_eq k j) || false)
out_there j k =
    let one = 1 * 2 ^ (j % WORD) % 2 ^ WORD in
    elim (cases_eq (k / WORD) (j / WORD)) [
      | inl at ↦
          rw (eq-eqb (k / WORD) (j / WORD) at, set_not one (k % WORD) (omega arith) (omega arith), one_there j k at)
          (elim (nat_eq k j) as (λ b. not b ≡ (not b || false)) [ true ↦ refl | false ↦ refl ])
      | inr apart ↦ rw (ne_eqb (k / WORD) (j / WORD) apart, ne_eqb k j (λ e. apart (ap (λ n. n / WORD) e))) refl
    ]

-- as many ones as a count
ones_set : (count k : ℕ) → is_set (2 ^ count - 1) k ≡ nat_lt k count
ones_set count k = elim (cases_lt k count) [
  | inl h ↦ ap (λ b. nat_eq b 1) (bit_at_ones count k h) ∙ sym (lt-ltb k count h)
  | inr h ↦ ap (λ b. nat_eq b 1) (bit_at_ones_above count k h) ∙ sym (le-ltb k count h)
]

-- ---- The words of a mask.

-- A position without a word is not permitted.
past_words : (words : List ℕ) (j : ℕ) → length words ≤ j / WORD → is_permitted words j ≡ false
past_words words j h = ap (λ word. is_set word (j % WORD)) (get_or_past words (j / WORD) 0 h) ∙ none_set (j % WORD)

pub permitted_at : (words : List ℕ) (j : ℕ) → get_or (permitted_of words) j false ≡ is_permitted words j
unfolding permitted_of
permitted_at words j = elim (cases_lt j (WORD * length words)) [
  | inl within ↦ get_or-map-range_with_len (is_permitted words) 0 (WORD * length words) j j false within (omega arith)
  | inr past ↦
      get_or_past (permitted_of words) j false (rw (length-map-range_with_len (is_permitted words) 0 (WORD * length words)) past)
      ∙ sym (past_words words j (omega (arith, past)))
]

pub length_permitted : (words : List ℕ) → length (permitted_of words) ≡ WORD * length words
unfolding permitted_of
length_permitted words = length-map-range_with_len (is_permitted words) 0 (WORD * length words)

-- and has no bit in the view
outside : (words : List ℕ) (view : List Bool) (j : ℕ) → permitted_of words ≡ view → length words ≤ j / WORD → get_or view j false ≡ false
outside words view j is past = ap (λ p. get_or p j false) (sym is) ∙ permitted_at words j ∙ past_words words j past

-- the word at an index has the bits of the positions there
pub word_there : (words : List ℕ) (view : List Bool) (word i j : ℕ) → permitted_of words ≡ view → word ≡ get_or words i 0 → j / WORD ≡ i
    → is_set word (j % WORD) ≡ get_or view j false
word_there words view word i j is read at =
    ap (λ w. is_set w (j % WORD)) (read ∙ ap (λ n. get_or words n 0) (sym at))
    ∙ sym (permitted_at words j) ∙ ap (λ p. get_or p j false) is

pub same_long : (words : List ℕ) (view : List Bool) (i word : ℕ) → permitted_of words ≡ view → length (permitted_of (set words i word)) ≡ length view
same_long words view i word is =
    length_permitted (set words i word) ∙ ap (λ n. WORD * n) (length-set words i word) ∙ sym (length_permitted words) ∙ ap length is

module _ (words : List ℕ) (view : List Bool) (i bits j : ℕ) (is : permitted_of words ≡ view) where
  -- one word keeps the bits that another number has
  pub kept_bits : (n word : ℕ) → i ≡ n → word ≡ get_or words n 0 → n < length words
      → get_or (permitted_of (set words n (bit_and word bits))) j false
      ≡ (get_or view j false && (not (nat_eq (j / WORD) i) || is_set bits (j % WORD)))
  kept_bits n word here read within =
      let kept = bit_and word bits in
      permitted_at (set words n kept) j ∙ elim (cases_eq (j / WORD) i) [
        | inl at ↦
            ap (λ m. is_set (get_or (set words n kept) m 0) (j % WORD)) (at ∙ here)
            ∙ ap (λ w. is_set w (j % WORD)) (get_or-set_same words n kept 0 within)
            ∙ set_and word bits (j % WORD)
            ∙ rw (word_there words view word n j is read (at ∙ here), eq-eqb (j / WORD) i at) refl
        | inr other ↦
            ap (λ w. is_set w (j % WORD)) (get_or-set_other words n (j / WORD) kept 0 (λ e. other (e ∙ sym here)))
            ∙ sym (permitted_at words j) ∙ ap (λ p. get_or p j false) is
            ∙ rw (ne_eqb (j / WORD) i other) (sym (and_true (get_or view j false)))
      ]

  -- a word that is not there has no bits
  pub kept_past : length words ≤ i
      → get_or view j false ≡ (get_or view j false && (not (nat_eq (j / WORD) i) || is_set bits (j % WORD)))
  kept_past past = elim (cases_eq (j / WORD) i) [
    | inl at ↦
        let none = outside words view j is (omega (arith, past, at)) in
        none ∙ sym (and_left (get_or view j false) (not (nat_eq (j / WORD) i) || is_set bits (j % WORD)) none)
    | inr other ↦ rw (ne_eqb (j / WORD) i other) (sym (and_true (get_or view j false)))
  ]

-- ---- A mask narrowed by a test, place after place.

-- below a place the mask permits what it did if that passes the test; the rest is as it was
pub record IsNarrowed (test : ℕ → Bool) (place : ℕ → ℕ) (old new : List Bool) (upto : ℕ) : Type 0 where
  pub below : (j : ℕ) → place j < upto → get_or new j false ≡ (get_or old j false && test j)
  pub others : (j : ℕ) → upto ≤ place j → get_or new j false ≡ get_or old j false

-- ---- A part of a mask, by another mask.

-- the positions in a part, by the other mask
abbrev pub in_part : Part → List Bool → ℕ → Bool
in_part part other j = is_in_part part (get_or other j false)

module _ (part : Part) (theirs : List Bool) (i mask bits : ℕ)
    (other : (j : ℕ) → j / WORD ≡ i → is_set mask (j % WORD) ≡ get_or theirs j false)
    (of : (k : ℕ) → k < WORD → is_set bits k ≡ is_in_part part (is_set mask k)) where
  -- what of_word ensures, as a test of positions
  pub part_there : (j : ℕ) → j / WORD ≡ i → is_set bits (j % WORD) ≡ in_part part theirs j
  part_there j at = of (j % WORD) (omega arith) ∙ ap (is_in_part part) (other j at)

  -- the bits of both
  pub both_there : (mine : List Bool) (word : ℕ) → ((j : ℕ) → j / WORD ≡ i → is_set word (j % WORD) ≡ get_or mine j false)
      → (j : ℕ) → j / WORD ≡ i → is_set (bit_and word bits) (j % WORD) ≡ (get_or mine j false && in_part part theirs j)
  both_there mine word own j at = set_and word bits (j % WORD) ∙ rw (own j at, part_there j at) refl

-- one word more without a bit in the part
pub none_more : (test : ℕ → Bool) (i word : ℕ) → ((j : ℕ) → j / WORD < i → test j ≡ false)
    → ((j : ℕ) → j / WORD ≡ i → is_set word (j % WORD) ≡ test j) → word ≡ 0 → (j : ℕ) → j / WORD < i + 1 → test j ≡ false
none_more test i word so_far same none j low = elim (cases_eq (j / WORD) i) [
  | inl at ↦ sym (same j at) ∙ ap (λ w. is_set w (j % WORD)) none ∙ none_set (j % WORD)
  | inr other ↦ so_far j (omega (arith, low, other))
]

-- a word that is not 0 has a bit, and so a position
pub some_there : (test : ℕ → Bool) (i word : ℕ) → word < 2 ^ WORD → ((j : ℕ) → j / WORD ≡ i → is_set word (j % WORD) ≡ test j)
    → (word ≡ 0 → ⊥) → ((j : ℕ) → test j ≡ false) → ⊥
some_there test i word fits same some none =
    let lowest = bit_at-trailing_zeros w64 word (omega (arith, some)) fits in
    let k = trailing_zeros w64 word in
    let place : (WORD * i + k) % WORD ≡ k = omega (arith, lowest.0) in
    let apart : true ≡ false =
    sym (ap (is_set word) place ∙ ap (λ n. nat_eq n 1) lowest.1) ∙ same (WORD * i + k) (omega (arith, lowest.0)) ∙ none (WORD * i + k) in
    cc

-- ---- All positions.

-- as many words of ones as the positions below a size need, and of the last one only the bits below it
pub full_at : (size count j : ℕ) → count ≡ (size - 1) / WORD
    → (get_or (permitted_of ((2 ^ WORD - 1) ∷ replicate count (2 ^ WORD - 1))) j false
    && (not (nat_eq (j / WORD) (size / WORD)) || is_set (1 * 2 ^ (size % WORD) % 2 ^ WORD - 1) (j % WORD))) ≡ nat_lt j size
full_at size count j enough =
    rw (all, one_shl (size % WORD) WORD (omega arith), ones_set (size % WORD) (j % WORD)) below
  where
    all : get_or (permitted_of ((2 ^ WORD - 1) ∷ replicate count (2 ^ WORD - 1))) j false ≡ nat_lt (j / WORD) (suc count)
    all = permitted_at ((2 ^ WORD - 1) ∷ replicate count (2 ^ WORD - 1)) j ∙ elim (cases_lt (j / WORD) (suc count)) [
      | inl low ↦
          ap (λ w. is_set w (j % WORD)) (get_or-replicate (suc count) (j / WORD) (2 ^ WORD - 1) 0 low)
          ∙ ap (λ b. nat_eq b 1) (bit_at_ones WORD (j % WORD) (omega arith)) ∙ sym (lt-ltb (j / WORD) (suc count) low)
      | inr high ↦
          past_words ((2 ^ WORD - 1) ∷ replicate count (2 ^ WORD - 1)) j (rw (length-replicate count (2 ^ WORD - 1)) high)
          ∙ sym (le-ltb (j / WORD) (suc count) high)
    ]

    below : (nat_lt (j / WORD) (suc count) && (not (nat_eq (j / WORD) (size / WORD)) || nat_lt (j % WORD) (size % WORD))) ≡ nat_lt j size
    below = grind (arith, nat_tests, enough)
