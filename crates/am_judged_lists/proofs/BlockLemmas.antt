-- The sets of a block have exactly the cubes that pass.
use Rattle.std.proofs.Common.{◌≡◌, ℕ, zero, suc, ◌+◌, ◌++◌, Some, Option, subst, slice_get, ◌<◌, ◌≤◌, Bool, true, false, not, ◌&&◌, ◌||◌, ◌==◌, nat_lt, nat_eq, List, [], ◌∷◌, length, take, get_or, refl, ap, sym, ◌∙◌, inl, inr, arith}
use Rattle.std.specs.Prelude.{None}
use Rattle.std.proofs.Math.Bool.{and_assoc}
use Rattle.std.specs.List.{list_all, range_with_len}
use Rattle.std.proofs.lemmas.Bool.{cases_Bool, cases_eq, cases_lt, eq-eqb, ne_eqb, lt-ltb, le-ltb, and_parts, and_from, or_right, both_ways, false_from_ne_true}
use Rattle.std.proofs.lemmas.Bool.Decides.{nat_tests}
use Rattle.std.proofs.lemmas.List.Folds.{list_all_more, list_all_at, list_all-append}
use Rattle.std.proofs.lemmas.Option.{same_Some, slice_get_past, slice_get_within, get_or_from_slice_get}
use Rattle.am_judged_lists.specs.declared.block.Block.{Block}
use Rattle.am_judged_lists.specs.declared.block.LabelRows.{LabelRows}
use Rattle.am_judged_lists.specs.declared.cube.LabelMask.{LabelMask}
use Rattle.am_judged_lists.specs.declared.certainty.Certainty.{Certainty}
use Rattle.am_judged_lists.specs.declared.certainty.Certainty.TheVariants.{May, Must}
use Rattle.am_judged_lists.specs.Certainty.{passes}
use Rattle.am_judged_lists.specs.Cube.{MaskedLabels, reaches_all, verdict_at, permits_position}
use Rattle.am_judged_lists.specs.declared.list_set.ListSet.{ListSet}
use Rattle.am_judged_lists.specs.ListSetView.{has}
use Rattle.am_judged_lists.specs.BlockView.{can_pass, fits_label, fits_masks, fit_rows, IsInRows, IsBlockOf}
use Rattle.am_judged_lists.specs.Places.{passes_if_there, is_at}
use Rattle.am_judged_lists.proofs.ListLemmas.{all_others, and_true, one_fails, not_all, each_in_row, all_first_more}
use Rattle.am_judged_lists.proofs.CubeLemmas.{fits, fits_at, fits_from}
use Rattle.am_judged_lists.proofs.JudgeLemmas.{may_is, must_is}
use Rattle.am_judged_lists.proofs.BoxLemmas.{others_permit}

-- ---- The elements so far that pass a test, by their indices.

-- an index is below a number, and its element passes
abbrev pub is_before : {X : Type 0} → (X → Bool) → List X → ℕ → ℕ → Bool
is_before test xs n k = nat_lt k n && is_at test xs k

pub one_more : (k n : ℕ) (a b : Bool) → (k ≡ n → a ≡ b) → (nat_lt k (n + 1) && a) ≡ ((nat_lt k n && a) || (nat_eq k n && b))
one_more k n a b same = grind (arith, nat_tests)

module _ {X : Type 0} (test : X → Bool) (xs : List X) where
  pub before_more : (n k : ℕ) (x : X) → slice_get xs n ≡ Some x
      → is_before test xs (n + 1) k ≡ (is_before test xs n k || (nat_eq k n && test x))
  before_more n k x here =
      one_more k n (is_at test xs k) (test x)
      (λ same. ap (is_at test xs) same ∙ ap (passes_if_there test) here)

  pub all_before : (n k : ℕ) → length xs ≤ n → is_before test xs n k ≡ is_at test xs k
  all_before n k h = elim (cases_lt k n) [
    | inl low ↦ ap (λ b. b && is_at test xs k) (lt-ltb k n low)
    | inr past ↦
        let none : is_at test xs k ≡ false = ap (passes_if_there test) (slice_get_past xs k (omega (arith, h, past))) in
        rw (le-ltb k n past) (sym none)
  ]

-- what passes on a list passes on the element at an index
pub all_at : {X : Type 0} (test : X → Bool) (xs : List X) (k : ℕ) (x : X) → list_all test xs ≡ true
    → slice_get xs k ≡ Some x → test x ≡ true
all_at test xs k x e at =
    not-false (test x) (λ fails. both_ways (list_all test xs)
    (list_all_at test xs k x (slice_get_within xs k x at) (ap test (get_or_from_slice_get xs k x x at) ∙ fails)) e)
  where
    not-false : (b : Bool) → (b ≡ false → ⊥) → b ≡ true
    not-false true h = refl
    not-false false h = absurd (h refl)

-- tests that agree on the element at an index
pub same_at : {X : Type 0} (p q : X → Bool) (xs : List X) (k : ℕ) → ((x : X) → slice_get xs k ≡ Some x → p x ≡ q x)
    → is_at p xs k ≡ is_at q xs k
same_at {X = X} p q xs k same = by (slice_get xs k) same
  where
    by : (o : Option X) → ((x : X) → o ≡ Some x → p x ≡ q x) → passes_if_there p o ≡ passes_if_there q o
    by None same = refl
    by (Some x) same = same x refl

-- what passes on a list passes on its first elements
all_taken : {X : Type 0} (test : X → Bool) (xs : List X) (i : ℕ) → list_all test xs ≡ true → list_all test (take i xs) ≡ true
all_taken test [] zero e = refl
all_taken test [] (suc i) e = refl
all_taken test (x ∷ xs) zero e = refl
all_taken test (x ∷ xs) (suc i) e =
    let parts = and_parts (test x) (list_all test xs) e in
    and_from (test x) (list_all test (take i xs)) parts.0 (all_taken test xs i parts.1)

-- ---- A cube permits the positions of a prefix.

each_permits : (prefix : List ℕ) (label : ℕ) (masks : List LabelMask) → label < length prefix → list_all (fits prefix) masks ≡ true
    → list_all (λ m. not (m.label == label) || get_or m.mask (get_or prefix label 0) false) masks ≡ true
each_permits prefix label [] h e = refl
each_permits prefix label (m ∷ masks) h e =
    let parts = and_parts (fits prefix m) (list_all (fits prefix) masks) e in
    let rest = list_all (λ (m : LabelMask). not (m.label == label) || get_or m.mask (get_or prefix label 0) false) masks in
    and_from (not (m.label == label) || get_or m.mask (get_or prefix label 0) false) rest
    (elim (cases_eq m.label label) [
      | inl same ↦
          or_right (not (m.label == label)) (get_or m.mask (get_or prefix label 0) false)
          (ap (λ i. get_or m.mask (get_or prefix i 0) false) (sym same) ∙ sym (fits_at prefix m (omega (arith, h, same))) ∙ parts.0)
      | inr other ↦ ap (λ b. not b || get_or m.mask (get_or prefix label 0) false) (ne_eqb m.label label other)
    ])
    (each_permits prefix label masks h parts.1)

-- the labels say what the masks say
labels_say : (prefix : List ℕ) (count : ℕ) (cube : MaskedLabels) → length prefix ≤ count
    → list_all (λ label. fits_label prefix label cube) (range_with_len 0 count) ≡ fits_masks prefix cube
labels_say prefix count cube short = elim (cases_Bool (fits_masks prefix cube)) [
  | inl fit ↦
      all_others (λ label. fits_label prefix label cube) 0 count (λ label _. elim (cases_lt label (length prefix)) [
        | inl before ↦
            or_right (not (nat_lt label (length prefix))) (permits_position cube label (get_or prefix label 0))
            (each_permits prefix label cube.masks before fit)
        | inr behind ↦
            ap (λ b. not b || permits_position cube label (get_or prefix label 0)) (le-ltb label (length prefix) behind)
      ]) ∙ sym fit
  | inr unfit ↦
      let m = one_fails (fits prefix) cube.masks unfit in
      let label = m.0.label in
      let before : label < length prefix = elim (cases_lt label (length prefix)) [
        | inl low ↦ low
        | inr behind ↦ absurd (both_ways (fits prefix m.0) m.2 (fits_from prefix m.0 (λ h. absurd (omega (arith, behind, h)))))
      ] in
      let p = get_or prefix label 0 in
      let forbidden : permits_position cube label p ≡ false =
      not_all (λ (n : LabelMask). not (n.label == label) || get_or n.mask p false) cube.masks m.0 m.1
      (rw (eq-eqb label label refl) (sym (fits_at prefix m.0 before) ∙ m.2)) in
      false_from_ne_true (list_all (λ label. fits_label prefix label cube) (range_with_len 0 count)) (λ e.
      both_ways (fits_label prefix label cube)
      (rw (lt-ltb label (length prefix) before) forbidden)
      ((each_in_row (λ label. fits_label prefix label cube) 0 count).0 e label (omega arith) (omega (arith, before, short))))
      ∙ sym unfit
]

rearranged : (a b c : Bool) → ((a && b) && c) ≡ ((a && c) && b)
rearranged true true c = sym (and_true c)
rearranged true false true = refl
rearranged true false false = refl
rearranged false b c = refl

-- a cube that can pass, and whose rows permit the positions, passes
passes_by_rows : (m : Certainty) (prefix : List ℕ) (cube : MaskedLabels) (all : Bool) → all ≡ list_all (fits prefix) cube.masks
    → (can_pass m (length prefix) cube && all) ≡ passes m (verdict_at cube prefix)
passes_by_rows May prefix cube all same = ap (λ b. not cube.empty && b) same ∙ sym (may_is cube prefix)
passes_by_rows Must prefix cube all same =
    rearranged (not cube.empty) (reaches_all cube prefix) all
    ∙ ap (λ b. (not cube.empty && b) && reaches_all cube prefix) same ∙ sym (must_is cube prefix)

-- the cubes so far are those that can pass and that permit the positions of the first labels
abbrev pub fits_first : Certainty → List ℕ → List LabelRows → MaskedLabels → Bool
fits_first m prefix labels cube = can_pass m (length prefix) cube && fit_rows prefix labels cube

pub all_fit : (m : Certainty) (prefix : List ℕ) (cubes : List MaskedLabels) (block : Block) (k : ℕ) → IsBlockOf cubes block
    → length prefix < length block.within.items
    → is_at (fits_first m prefix block.labels.items) cubes k ≡ is_at (λ cube. passes m (verdict_at cube prefix)) cubes k
all_fit m prefix cubes block k is short =
    same_at (fits_first m prefix block.labels.items) (λ cube. passes m (verdict_at cube prefix)) cubes k
    (λ cube at. passes_by_rows m prefix cube (fit_rows prefix block.labels.items cube) (is.covered k cube prefix at short))

-- if no cube is left so far, none passes
pub none_later : (m : Certainty) (prefix : List ℕ) (cubes : List MaskedLabels) (labels : List LabelRows) (k i : ℕ)
    → is_at (fits_first m prefix (take i labels)) cubes k ≡ false → is_at (fits_first m prefix labels) cubes k ≡ false
none_later m prefix cubes labels k i = by (slice_get cubes k)
  where
    by : (o : Option MaskedLabels) → passes_if_there (fits_first m prefix (take i labels)) o ≡ false
        → passes_if_there (fits_first m prefix labels) o ≡ false
    by None none = refl
    by (Some cube) none =
        let fits_rows : LabelRows → Bool = λ rows. fits_label prefix rows.label cube in
        false_from_ne_true (fits_first m prefix labels cube) (λ e.
        let parts = and_parts (can_pass m (length prefix) cube) (list_all fits_rows labels) e in
        both_ways (fits_first m prefix (take i labels) cube) none
        (and_from (can_pass m (length prefix) cube) (list_all fits_rows (take i labels)) parts.0 (all_taken fits_rows labels i parts.1)))

-- one more label
pub narrowed : (m : Certainty) (prefix : List ℕ) (cubes : List MaskedLabels) (block : Block) (i : ℕ) (rows : LabelRows) (k : ℕ) (left next : ListSet)
    → IsBlockOf cubes block → slice_get block.labels.items i ≡ Some rows
    → has left k ≡ is_at (fits_first m prefix (take i block.labels.items)) cubes k
    → ((k : ℕ) (cube : MaskedLabels) → IsInRows k cube rows → has next k ≡ (has left k && fits_label prefix rows.label cube))
    → ((k : ℕ) → has left k ≡ false → has next k ≡ false)
    → has next k ≡ is_at (fits_first m prefix (take (i + 1) block.labels.items)) cubes k
narrowed m prefix cubes block i rows k left next is at so_far permitting fewer = by (slice_get cubes k) refl
  where
    by : (o : Option MaskedLabels) → slice_get cubes k ≡ o → has next k ≡ passes_if_there (fits_first m prefix (take (i + 1) block.labels.items)) o
    by None none = fewer k (so_far ∙ ap (passes_if_there (fits_first m prefix (take i block.labels.items))) none)
    by (Some cube) here =
        let fits_rows : LabelRows → Bool = λ rows. fits_label prefix rows.label cube in
        let labels = block.labels.items in
        permitting k cube (is.rows k cube i rows here at)
        ∙ ap (λ b. b && fits_rows rows) (so_far ∙ ap (passes_if_there (fits_first m prefix (take i labels))) here)
        ∙ and_assoc (can_pass m (length prefix) cube) (list_all fits_rows (take i labels)) (fits_rows rows)
        ∙ ap (λ b. can_pass m (length prefix) cube && (list_all fits_rows (take i labels) && fits_rows b))
        (sym (get_or_from_slice_get labels i rows rows at))
        ∙ ap (λ b. can_pass m (length prefix) cube && b) (sym (list_all_more fits_rows labels i rows (slice_get_within labels i rows at)))

-- ---- Labels that have rows.

module _ (cube : MaskedLabels) (prefix : List ℕ) where
  abbrev fits_at_label : ℕ → Bool
  fits_at_label label = fits_label prefix label cube

  -- the rows so far say what the labels so far say
  abbrev pub AreSaid : ℕ → List LabelRows → Type 0
  AreSaid count labels = fit_rows prefix labels cube ≡ list_all fits_at_label (range_with_len 0 count)

  pub one_row : (label : ℕ) (labels : List LabelRows) (rows : LabelRows) → rows.label ≡ label
      → AreSaid label labels → AreSaid (label + 1) (labels ++ rows ∷ [])
  one_row label labels rows same said =
      list_all-append (λ (rows : LabelRows). fits_at_label rows.label) labels (rows ∷ [])
      ∙ (λ j. said j && (and_true (fits_at_label rows.label) ∙ ap fits_at_label same) j)
      ∙ sym (all_first_more fits_at_label label)

  pub no_row : (label : ℕ) (labels : List LabelRows) → list_all (λ m. not (m.label == label)) cube.masks ≡ true
      → AreSaid label labels → AreSaid (label + 1) labels
  no_row label labels free said =
      let p = get_or prefix label 0 in
      let permits = or_right (not (nat_lt label (length prefix))) (permits_position cube label p)
      (others_permit label p cube.masks free) in
      said ∙ sym (and_true (list_all fits_at_label (range_with_len 0 label)))
      ∙ ap (λ b. list_all fits_at_label (range_with_len 0 label) && b) (sym permits)
      ∙ sym (all_first_more fits_at_label label)

  pub all_said : (count : ℕ) (labels : List LabelRows) → length prefix ≤ count → AreSaid count labels
      → fit_rows prefix labels cube ≡ fits_masks prefix cube
  all_said count labels short said = said ∙ labels_say prefix count cube short

-- ---- One more at the end of a list.

pub each_place_pushed : {X : Type 0} (P : ℕ → X → Type 0) (xs : List X) (x : X) → ((i : ℕ) (y : X) → slice_get xs i ≡ Some y → P i y) → P (length xs) x
    → (i : ℕ) (y : X) → slice_get (xs ++ x ∷ []) i ≡ Some y → P i y
each_place_pushed P [] x each here zero y at = subst (P 0) (same_Some x y at) here
each_place_pushed P [] x each here (suc i) y at = absurd (cc)
each_place_pushed P (z ∷ xs) x each here zero y at = each zero y at
each_place_pushed P (z ∷ xs) x each here (suc i) y at = each_place_pushed (λ i. P (suc i)) xs x (λ i y at. each (suc i) y at) here i y at
