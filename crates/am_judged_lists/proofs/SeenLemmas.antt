-- Cubes that are asked of one side of a pair.
use Rattle.std.proofs.Common.{◌≡◌, ℕ, ◌<◌, ◌*◌, zero, suc, Bool, true, false, ◌&&◌, List, [], ◌∷◌, length, map, take, get_or, nat_lt, refl, ap, sym, ◌∙◌, arith}
use Rattle.std.specs.List.{list_all, AllByRecursion}
use Rattle.std.proofs.lemmas.Bool.{and_right, lt-ltb, ltb-true}
use Rattle.std.proofs.lemmas.List.Folds.{list_all-map}
use Rattle.am_judged_lists.specs.declared.cube.LabelMask.{LabelMask}
use Rattle.am_judged_lists.specs.Cube.{MaskedLabels, may_at, reaches, matches}
use Rattle.am_judged_lists.specs.CubeView.{AscendByLabel}
use Rattle.am_judged_lists.specs.BlockView.{is_within}
use Rattle.am_judged_lists.specs.declared.pairs.Side.{Side}
use Rattle.am_judged_lists.specs.Pairs.{place_of, seen}
use Rattle.am_judged_lists.proofs.ListLemmas.{at_index, each_map, each_passes, same_all}
use Rattle.am_judged_lists.proofs.CubeLemmas.{fits, fits_at}
use Rattle.am_judged_lists.proofs.PairLemmas.{place_half, length_seen, seen_at}

-- a cube whose masks are of the first labels
pub label_within : (n : ℕ) (masks : List LabelMask) (i : ℕ) (m : LabelMask) → list_all (λ k. nat_lt k.label n) masks ≡ true → i < length masks → m ≡ get_or masks i m → m.label < n
label_within n masks i m within low read =
    ltb-true m.label n
    (at_index (λ k. nat_lt k.label n ≡ true) masks i m (each_passes (λ k. nat_lt k.label n) masks within) low read)

-- the masks before another are of lower labels
pub lower_labels : (masks : List LabelMask) (i : ℕ) (m : LabelMask) → AscendByLabel masks → i < length masks → m ≡ get_or masks i m → AllByRecursion (λ n. n.label < m.label) (take i masks)
lower_labels [] i m ascend low read = absurd (omega (arith, low))
lower_labels (n ∷ masks) zero m ascend low read = tt
lower_labels (n ∷ masks) (suc i) m ascend low read = (
  at_index (λ x. n.label < x.label) masks i m ascend.0 (omega (arith, low)) read,
  lower_labels masks i m ascend.1 (omega (arith, low)) read,
)

-- a mask of the place of its label
abbrev pub moved : Side → List ℕ → LabelMask → LabelMask
moved side shared m = record { label = place_of side shared m.label; mask = m.mask }

-- a cube with the masks so far, moved
abbrev pub moved_so_far : Side → List ℕ → List LabelMask → ℕ → MaskedLabels
moved_so_far side shared masks i = record { empty = false; masks = map (moved side shared) (take i masks) }

-- the moved masks are of lower labels too
pub moved_lower : (side : Side) (shared : List ℕ) (masks : List LabelMask) (m : LabelMask) → AllByRecursion (λ n. n.label < m.label) masks
    → AllByRecursion (λ n. n.label < place_of side shared m.label) (map (moved side shared) masks)
moved_lower side shared [] m lower = tt
moved_lower side shared (n ∷ masks) m lower =
    (omega (arith, lower.0, place_half side shared n.label, place_half side shared m.label), moved_lower side shared masks m lower.1)

module _ (side : Side) (shared : List ℕ) (labels : ℕ) (e : List ℕ) (long : length e ≡ 2 * labels) where
  -- a moved mask fits a pair if the mask fits what is seen
  moved_fits : (m : LabelMask) → m.label < labels → fits e (moved side shared m) ≡ fits (seen side shared labels e) m
  moved_fits m within =
      fits_at e (moved side shared m) (omega (arith, long, within, place_half side shared m.label))
      ∙ ap (λ p. get_or m.mask p false) (sym (seen_at side shared labels e m.label within))
      ∙ sym (fits_at (seen side shared labels e) m (omega (arith, within, length_seen side shared labels e)))

  moved_reaches : (m : LabelMask) → m.label < labels → reaches e (moved side shared m) ≡ reaches (seen side shared labels e) m
  moved_reaches m within =
      lt-ltb (place_of side shared m.label) (length e) (omega (arith, long, within, place_half side shared m.label))
      ∙ sym (lt-ltb m.label (length (seen side shared labels e)) (omega (arith, within, length_seen side shared labels e)))

  -- tests of moved masks that have the answers of the masks
  all_moved : (p q : LabelMask → Bool) → ((m : LabelMask) → m.label < labels → p (moved side shared m) ≡ q m)
      → (masks : List LabelMask) → list_all (λ m. nat_lt m.label labels) masks ≡ true
      → list_all p (map (moved side shared) masks) ≡ list_all q masks
  all_moved p q same masks within =
      list_all-map p (moved side shared) masks
      ∙ same_all (λ m. p (moved side shared m)) q masks
      (each_map (λ m. nat_lt m.label labels ≡ true) (λ m. p (moved side shared m) ≡ q m) masks
      (λ m low. same m (ltb-true m.label labels low))
      (each_passes (λ m. nat_lt m.label labels) masks within))

  -- the moved cube matches what the cube matches
  pub matches_moved : (cube : MaskedLabels) → cube.empty ≡ false → is_within cube labels ≡ true
      → matches (record { empty = false; masks = map (moved side shared) cube.masks }) e ≡ matches cube (seen side shared labels e)
  matches_moved cube some within =
      let d = seen side shared labels e in
      rw (all_moved (fits e) (fits d) moved_fits cube.masks within, all_moved (reaches e) (reaches d) moved_reaches cube.masks within, some) refl

  -- a cube with a label that no side has matches nothing that is seen
  pub never_seen : (cube : MaskedLabels) → is_within cube labels ≡ false → matches cube (seen side shared labels e) ≡ false
  never_seen cube past =
      let d = seen side shared labels e in
      ap (λ n. may_at cube d && list_all (λ m. nat_lt m.label n) cube.masks) (length_seen side shared labels e)
      ∙ and_right (may_at cube d) (is_within cube labels) past
