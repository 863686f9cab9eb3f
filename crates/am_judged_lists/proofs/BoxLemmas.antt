-- Boxes that keep some positions of a label, and how a cube matches them.
use Rattle.std.proofs.Common.{◌≡◌, ◌≢◌, ℕ, zero, suc, ◌+◌, ◌<◌, Bool, true, false, not, ◌&&◌, ◌||◌, ◌==◌, ◌⊎◌, ◌↔◌}
use Rattle.std.proofs.Common.{List, [], ◌∷◌, length, take, get_or, set, nat_lt, refl, ap, sym, ◌∙◌, inl, inr, arith}
use Rattle.std.specs.List.{list_all}
use Rattle.std.proofs.Math.Bool.{and-false, and_self, not-not}
use Rattle.std.proofs.lemmas.Bool.{cases_eq, and_parts, and_from, eq-eqb, ne_eqb, lt-ltb, ltb-true}
use Rattle.std.proofs.lemmas.List.{get_or_read, get_or-set_same, get_or-set_other, length-set}
use Rattle.std.proofs.lemmas.List.Folds.{list_all_more}
use Rattle.am_universe.specs.Choice.{admits, IsWhole}
use Rattle.am_universe.proofs.WholeChoiceLemmas.{admitted_at}
use Rattle.am_judged_lists.specs.declared.cube.LabelMask.{LabelMask}
use Rattle.am_judged_lists.specs.declared.mask.Part.{Part}
use Rattle.am_judged_lists.specs.declared.mask.Part.TheVariants.{Within, Outside}
use Rattle.am_judged_lists.specs.Cube.{MaskedLabels, reaches, permits_position}
use Rattle.am_judged_lists.specs.CubeView.{AscendByLabel}
use Rattle.am_judged_lists.specs.Boxes.{is_in_part, box_permits, IsInBox, HasChoice, IsOpen, count_true, count_positions}
use Rattle.am_judged_lists.proofs.ListLemmas.{all_pass, at_index, each_map, and_true}
use Rattle.am_judged_lists.proofs.CubeLemmas.{fits, fits_at}

-- ---- The mask of one label of a cube.

-- a mask permits a position if it is of this label
abbrev pub permits_here : ℕ → ℕ → LabelMask → Bool
permits_here label position m = not (m.label == label) || get_or m.mask position false

-- without a mask of the label, each position is permitted
pub others_permit : (label position : ℕ) (masks : List LabelMask) → list_all (λ m. not (m.label == label)) masks ≡ true → list_all (permits_here label position) masks ≡ true
others_permit label position [] apart = refl
others_permit label position (m ∷ masks) apart =
    let parts = and_parts (not (m.label == label)) (list_all (λ n. not (n.label == label)) masks) apart in
    and_from (permits_here label position m) (list_all (permits_here label position) masks)
    (ap (λ b. b || get_or m.mask position false) parts.0) (others_permit label position masks parts.1)

-- no two masks are of the same label
pub permits_alone : (label position i : ℕ) (masks : List LabelMask) (m : LabelMask) → AscendByLabel masks → i < length masks → m ≡ get_or masks i m → m.label ≡ label
    → list_all (permits_here label position) masks ≡ get_or m.mask position false
permits_alone label position i [] m ascend h read same = absurd (omega arith)
permits_alone label position zero (n ∷ masks) m ascend h read same =
    let here : permits_here label position n ≡ get_or m.mask position false =
    ap (permits_here label position) (sym read) ∙ ap (λ b. not b || get_or m.mask position false) (eq-eqb m.label label same) in
    let is : m.label ≡ n.label = ap (λ (x : LabelMask). x.label) read in
    let rest = others_permit label position masks (all_pass (λ x. not (x.label == label)) masks
    (each_map (λ x. n.label < x.label) (λ x. not (x.label == label) ≡ true) masks
    (λ x above. ap not (ne_eqb x.label label (λ e. omega (arith, above, e, same, is)))) ascend.0)) in
    ap (λ b. b && list_all (permits_here label position) masks) here
    ∙ ap (λ b. get_or m.mask position false && b) rest ∙ and_true (get_or m.mask position false)
permits_alone label position (suc i) (n ∷ masks) m ascend h read same =
    let below : n.label < m.label = at_index (λ x. n.label < x.label) masks i m ascend.0 (omega arith) read in
    let first : permits_here label position n ≡ true =
    ap (λ b. not b || get_or n.mask position false) (ne_eqb n.label label (λ e. omega (arith, below, e, same))) in
    ap (λ b. b && list_all (permits_here label position) masks) first
    ∙ permits_alone label position i masks m ascend.1 (omega arith) read same

-- ---- Fewer positions.

-- 0, and the numbers after it
from_zero : (P : ℕ → Type 0) → P 0 → ((j : ℕ) → P (suc j)) → (j : ℕ) → P j
from_zero P first rest zero = first
from_zero P first rest (suc j) = rest j

-- a mask that keeps the positions which pass a test
abbrev pub Keeps : List Bool → List Bool → (ℕ → Bool) → Type 0
Keeps old new test = (j : ℕ) → get_or new j false ≡ (get_or old j false && test j)

-- a mask that keeps positions has fewer of them, or as many, and then all passed the test
less_or_same : (old new : List Bool) (test : ℕ → Bool) → length new ≡ length old → Keeps old new test
    → (count_true new < count_true old)
    ⊎ ((count_true new ≡ count_true old) × ((j : ℕ) → (get_or old j false && not (test j)) ≡ false))
less_or_same [] [] test e kept = inr (refl, λ j. refl)
less_or_same [] (n ∷ new) test e kept = absurd (omega (arith, e))
less_or_same (o ∷ old) [] test e kept = absurd (omega (arith, e))
less_or_same (true ∷ old) (true ∷ new) test e kept = elim (less_or_same old new (λ j. test (suc j)) (omega (arith, e)) (λ j. kept (suc j))) [
  | inl less ↦ inl (omega (arith, less))
  | inr same ↦ inr (
    omega (arith, same.0),
    from_zero (λ j. (get_or (true ∷ old) j false && not (test j)) ≡ false) (ap not (sym (kept 0))) same.1,
  )
]
less_or_same (true ∷ old) (false ∷ new) test e kept = elim (less_or_same old new (λ j. test (suc j)) (omega (arith, e)) (λ j. kept (suc j))) [
  | inl less ↦ inl (omega (arith, less))
  | inr same ↦ inl (omega (arith, same.0))
]
less_or_same (false ∷ old) (false ∷ new) test e kept = elim (less_or_same old new (λ j. test (suc j)) (omega (arith, e)) (λ j. kept (suc j))) [
  | inl less ↦ inl (omega (arith, less))
  | inr same ↦ inr (omega (arith, same.0), from_zero (λ j. (get_or (false ∷ old) j false && not (test j)) ≡ false) refl same.1)
]
less_or_same (false ∷ old) (true ∷ new) test e kept = absurd (let b = kept 0 in cc)

-- if one did not pass, there are fewer
fewer_true : (old new : List Bool) (test : ℕ → Bool) → length new ≡ length old → Keeps old new test → (((j : ℕ) → (get_or old j false && not (test j)) ≡ false) → ⊥) → count_true new < count_true old
fewer_true old new test e kept some = elim (less_or_same old new test e kept) [
  | inl less ↦ less
  | inr same ↦ absurd (some same.1)
]

-- fewer positions of one label are fewer in all
count_set : (b : List (List Bool)) (label : ℕ) (mask : List Bool) → label < length b → count_true mask < count_true (get_or b label []) → count_positions (set b label mask) < count_positions b
count_set [] label mask h less = absurd (omega arith)
count_set (m ∷ b) zero mask h less = omega (arith, less)
count_set (m ∷ b) (suc i) mask h less = omega (arith, count_set b i mask (omega (arith, h)) less)

-- ---- A label of a box that keeps the positions which pass a test.

module _ (b : List (List Bool)) (label : ℕ) (mask : List Bool) (test : ℕ → Bool) (within : label < length b) (kept : Keeps (get_or b label []) mask test) where
  -- the label itself
  set_here : (p : ℕ) → box_permits (set b label mask) label p ≡ (box_permits b label p && test p)
  set_here p = ap (λ m. get_or m p false) (get_or-set_same b label mask [] within) ∙ kept p

  -- the other labels
  set_elsewhere : (i p : ℕ) → i ≢ label → box_permits (set b label mask) i p ≡ box_permits b i p
  set_elsewhere i p other = ap (λ m. get_or m p false) (get_or-set_other b label i mask [] other)

  -- as many labels
  same_long : length (set b label mask) ≡ length b
  same_long = length-set b label mask

  -- if some position passes, some choice is left
  pub choice_left : HasChoice b → (((p : ℕ) → (box_permits b label p && test p) ≡ false) → ⊥) → HasChoice (set b label mask)
  choice_left some here i low none = elim (cases_eq i label) [
    | inl same ↦ here (λ p. sym (set_here p) ∙ ap (λ n. box_permits (set b label mask) n p) (sym same) ∙ none p)
    | inr other ↦ some i (omega (arith, low, same_long)) (λ p. sym (set_elsewhere i p other) ∙ none p)
  ]

  -- if some position does not pass, there are fewer
  pub fewer_positions : length mask ≡ length (get_or b label []) → (((p : ℕ) → (box_permits b label p && not (test p)) ≡ false) → ⊥)
      → count_positions (set b label mask) < count_positions b
  fewer_positions same out = count_set b label mask within (fewer_true (get_or b label []) mask test same kept out)

-- ---- An open label.

-- some position is not in the part
pub open_out : (b : List (List Bool)) (cube : MaskedLabels) (label : ℕ) (part : Part) → IsOpen b cube label
    → ((p : ℕ) → (box_permits b label p && not (is_in_part part (permits_position cube label p))) ≡ false) → ⊥
open_out b cube label Within h none = h.each Outside none
open_out b cube label Outside h none = h.each Within (λ p. ap (λ c. box_permits b label p && c) (sym (not-not (permits_position cube label p))) ∙ none p)

-- what is kept by the mask of a cube
pub kept_part : (cube : MaskedLabels) (label : ℕ) (part : Part) (old new other : List Bool) → ((p : ℕ) → permits_position cube label p ≡ get_or other p false)
    → ((j : ℕ) → get_or new j false ≡ (get_or old j false && is_in_part part (get_or other j false))) → Keeps old new (λ p. is_in_part part (permits_position cube label p))
kept_part cube label part old new other same kept j =
    kept j ∙ ap (λ x. get_or old j false && is_in_part part x) (sym (same j))

-- without a mask, no label is open
pub not_open : (b : List (List Bool)) (cube : MaskedLabels) (label : ℕ) → ((p : ℕ) → permits_position cube label p ≡ true) → IsOpen b cube label → ⊥
not_open b cube label all h =
    h.each Outside (λ p. ap (λ c. box_permits b label p && not c) (all p) ∙ and-false (box_permits b label p))

-- ---- The choices of a box that a cube matches.

module _ (b : List (List Bool)) (c : List ℕ) (m : LabelMask) (inside : IsInBox b c) where
  -- a mask of a label of the box
  pub fits_inside : m.label < length b → fits c m ≡ get_or m.mask (get_or c m.label 0) false
  fits_inside h = fits_at c m (omega (arith, h, inside.long))

-- a box has the choices of another that fit some masks
pub record AreMatching (start now : List (List Bool)) (masks : List LabelMask) : Type 0 where
  pub same : length now ≡ length start
  pub each : (c : List ℕ) → IsInBox now c ↔ IsInBox start c × (list_all (fits c) masks ≡ true)

-- one mask more
pub matching_more : (start now next : List (List Bool)) (masks : List LabelMask) (i : ℕ) (m : LabelMask) → AreMatching start now (take i masks)
    → i < length masks → m ≡ get_or masks i m → m.label < length now → length next ≡ length now
    → ((c : List ℕ) → IsInBox next c ↔ IsInBox now c × (get_or m.mask (get_or c m.label 0) false ≡ true))
    → AreMatching start next (take (i + 1) masks)
matching_more start now next masks i m so_far low read within same kept = record {
  same = same ∙ so_far.same;
  each = λ c.
      let first = list_all (fits c) (take i masks) in
      let one_more = list_all_more (fits c) masks i m low ∙ ap (λ x. first && fits c x) (sym read) in (
        λ h.
            let o = (kept c).0 h in
            let s = (so_far.each c).0 o.0 in
            (s.0, one_more ∙ and_from first (fits c m) s.1 (fits_inside now c m o.0 within ∙ o.1)),
        λ h.
            let parts = and_parts first (fits c m) (sym one_more ∙ h.1) in
            let inside = (so_far.each c).1 (h.0, parts.0) in
            (kept c).1 (inside, sym (fits_inside now c m inside within) ∙ parts.1),
      );
}

-- ---- How a cube matches a box.

-- what the masks so far say: `labels` of them are open, and the last of these is `last`
pub record AreSeen (b : List (List Bool)) (cube : MaskedLabels) (masks : List LabelMask) (last labels : ℕ) : Type 0 where
  pub all : labels ≡ 0 → (c : List ℕ) → IsInBox b c → list_all (fits c) masks ≡ true
  pub some : (labels ≡ 0 → ⊥) → IsOpen b cube last
  pub one : labels ≡ 1 → (c : List ℕ) → IsInBox b c → list_all (fits c) masks ≡ permits_position cube last (get_or c last 0)
  pub reached : (c : List ℕ) → IsInBox b c → list_all (reaches c) masks ≡ true

module _ (b : List (List Bool)) (cube : MaskedLabels) (masks : List LabelMask) (i : ℕ) (m : LabelMask) (last labels : ℕ)
    (so_far : AreSeen b cube (take i masks) last labels) (low : i < length masks) (read : m ≡ get_or masks i m) where
  -- one mask more
  more_seen : (c : List ℕ) → list_all (fits c) (take (i + 1) masks) ≡ (list_all (fits c) (take i masks) && fits c m)
  more_seen c = list_all_more (fits c) masks i m low ∙ ap (λ x. list_all (fits c) (take i masks) && fits c x) (sym read)

  -- a label of the box is reached
  one_reached : m.label < length b → (c : List ℕ) → IsInBox b c → list_all (reaches c) (take (i + 1) masks) ≡ true
  one_reached within c h =
      list_all_more (reaches c) masks i m low
      ∙ and_from (list_all (reaches c) (take i masks)) (reaches c (get_or masks i m)) (so_far.reached c h)
      (ap (reaches c) (sym read) ∙ lt-ltb m.label (length c) (omega (arith, within, h.long)))

  -- a mask that fits all choices of the box
  seen_fits : m.label < length b → ((c : List ℕ) → IsInBox b c → fits c m ≡ true) → AreSeen b cube (take (i + 1) masks) last labels
  seen_fits within passes =
      let same : (c : List ℕ) → IsInBox b c → list_all (fits c) (take (i + 1) masks) ≡ list_all (fits c) (take i masks) =
      λ c h. more_seen c ∙ ap (λ x. list_all (fits c) (take i masks) && x) (passes c h) ∙ and_true (list_all (fits c) (take i masks)) in
      record {
        all = λ e c h. same c h ∙ so_far.all e c h;
        some = so_far.some;
        one = λ e c h. same c h ∙ so_far.one e c h;
        reached = one_reached within;
      }

  -- a mask that permits all positions of the box
  pub seen_covered : m.label < length b → ((p : ℕ) → (box_permits b m.label p && not (get_or m.mask p false)) ≡ false) → AreSeen b cube (take (i + 1) masks) last labels
  seen_covered within none = seen_fits within (λ c h.
      let at = get_or c m.label 0 in
      fits_inside b c m h within
      ∙ permitted (get_or m.mask at false) (sym (ap (λ x. x && not (get_or m.mask at false)) (h.each m.label within)) ∙ none at))
    where
      permitted : (x : Bool) → (true && not x) ≡ false → x ≡ true
      permitted true e = refl
      permitted false e = cc

  module _ (same : masks ≡ cube.masks) (ascend : AscendByLabel masks) (within : m.label < length b) where
    -- the mask alone says which positions of its label are permitted
    by_mask : (p : ℕ) → permits_position cube m.label p ≡ get_or m.mask p false
    by_mask p =
        ap (list_all (permits_here m.label p)) (sym same) ∙ permits_alone m.label p i masks m ascend low read refl

    -- some position is within the mask, and some is outside
    open_each : (((p : ℕ) → (box_permits b m.label p && get_or m.mask p false) ≡ false) → ⊥) → (((p : ℕ) → (box_permits b m.label p && not (get_or m.mask p false)) ≡ false) → ⊥)
        → (part : Part) → ((p : ℕ) → (box_permits b m.label p && is_in_part part (permits_position cube m.label p)) ≡ false) → ⊥
    open_each some out Within none = some (λ p. ap (λ x. box_permits b m.label p && x) (sym (by_mask p)) ∙ none p)
    open_each some out Outside none = out (λ p. ap (λ x. box_permits b m.label p && not x) (sym (by_mask p)) ∙ none p)

    -- a mask of an open label
    pub seen_open : (more : ℕ) → (more ≡ 0 → ⊥) → (more ≡ 1 → labels ≡ 0)
        → (((p : ℕ) → (box_permits b m.label p && get_or m.mask p false) ≡ false) → ⊥) → (((p : ℕ) → (box_permits b m.label p && not (get_or m.mask p false)) ≡ false) → ⊥)
        → AreSeen b cube (take (i + 1) masks) m.label more
    seen_open more above first some out = record {
      all = λ e. absurd (above e);
      some = λ h. record { within = within; each = open_each some out };
      one = λ e c h.
          more_seen c ∙ ap (λ x. x && fits c m) (so_far.all (first e) c h)
          ∙ fits_inside b c m h within ∙ sym (by_mask (get_or c m.label 0));
      reached = one_reached within;
    }

-- ---- The box of all choices.

-- positions that are all below the sizes
admits_from : (ns c : List ℕ) → length c ≡ length ns → ((i : ℕ) → i < length ns → get_or c i 0 < get_or ns i 0) → admits ns c ≡ true
admits_from [] [] e below = refl
admits_from [] (p ∷ c) e below = absurd (omega (arith, e))
admits_from (n ∷ ns) [] e below = absurd (omega (arith, e))
admits_from (n ∷ ns) (p ∷ c) e below =
    and_from (nat_lt p n) (admits ns c) (lt-ltb p n (below 0 (omega arith)))
    (admits_from ns c (omega (arith, e)) (λ i h. below (suc i) (omega (arith, h))))

-- the first labels have all their positions
pub record IsFull (ns : List ℕ) (b : List (List Bool)) (count : ℕ) : Type 0 where
  pub long : length b ≡ count
  pub each : (i p : ℕ) → i < count → box_permits b i p ≡ nat_lt p (get_or ns i 0)

module _ (ns : List ℕ) (b : List (List Bool)) (count : ℕ) (full : IsFull ns b count) (whole : count ≡ length ns) (c : List ℕ) where
  -- a choice of the box of all choices is whole
  pub inside_whole : IsInBox b c → IsWhole ns c
  inside_whole h =
      let long : length c ≡ length ns = h.long ∙ full.long ∙ whole in (
        admits_from ns c long (λ i low.
            ltb-true (get_or c i 0) (get_or ns i 0)
            (sym (full.each i (get_or c i 0) (omega (arith, low, whole))) ∙ h.each i (omega (arith, low, whole, full.long)))),
        long,
      )

  -- each whole choice is in it
  pub whole_inside : IsWhole ns c → IsInBox b c
  whole_inside h = record {
    long = h.1 ∙ sym whole ∙ sym full.long;
    each = λ i low.
        full.each i (get_or c i 0) (omega (arith, low, full.long))
        ∙ lt-ltb (get_or c i 0) (get_or ns i 0) (admitted_at ns c i h.0 (omega (arith, low, full.long, whole, h.1)));
  }

-- ---- Each label has some position.

-- one label more that has a position
pub chosen_more : (b : List (List Bool)) (k : ℕ) (mask : List Bool)
    → ((i : ℕ) → i < k → ((p : ℕ) → box_permits b i p ≡ false) → ⊥) → k < length b → mask ≡ get_or b k mask
    → (((p : ℕ) → (get_or mask p false && get_or mask p false) ≡ false) → ⊥)
    → (i : ℕ) → i < k + 1 → ((p : ℕ) → box_permits b i p ≡ false) → ⊥
chosen_more b k mask so_far within read some i low none = elim (cases_eq i k) [
  | inl same ↦
      some (λ p.
      and_self (get_or mask p false)
      ∙ ap (λ m. get_or m p false) (get_or_read b k mask within read [])
      ∙ ap (λ n. box_permits b n p) (sym same) ∙ none p)
  | inr other ↦ so_far i (omega (arith, low, other)) none
]

-- a label without a position
pub none_chosen : (b : List (List Bool)) (k : ℕ) (mask : List Bool) → k < length b → mask ≡ get_or b k mask
    → ((p : ℕ) → (get_or mask p false && get_or mask p false) ≡ false) → HasChoice b → ⊥
none_chosen b k mask within read none some =
    some k within (λ p.
    sym (ap (λ m. get_or m p false) (get_or_read b k mask within read []))
    ∙ sym (and_self (get_or mask p false)) ∙ none p)
