-- How a cube is kept in memory, and how it is built label by label.
use Rattle.std.specs.Prelude.{◌≡◌, ℕ, ◌+◌, ◌<◌, List, [], ◌∷◌, ◌++◌, max, slice_index_or}
use Rattle.std.specs.Prelude.{Bool, true, false, not, if◌then◌else◌}
use Rattle.std.specs.List.{list_all, range_with_len, AllByRecursion}
use Rattle.am_judged_lists.specs.declared.cube.LabelMask.{LabelMask}
use Rattle.am_judged_lists.specs.Cube.{MaskedLabels}

-- The labels of masks ascend.
abbrev pub AscendByLabel : List LabelMask → Type 0
AscendByLabel [] = Unit {0}
AscendByLabel (m ∷ masks) = AllByRecursion (λ n. m.label < n.label) masks × AscendByLabel masks

-- One more than the last label that has a mask, or 0 if no label has one.
abbrev pub reach_of : List LabelMask → ℕ
reach_of [] = 0
reach_of (m ∷ masks) = max (m.label + 1) (reach_of masks)

-- What always holds of the masks of a cube, and of its reach.
pub record IsKept (masks : List LabelMask) (reach : ℕ) : Type 0 where
  pub ascend : AscendByLabel masks
  pub same : reach ≡ reach_of masks

-- A mask permits no position, or every position, of a label of some size.
abbrev pub permits_none : ℕ → List Bool → Bool
permits_none size mask = list_all (λ j. not (slice_index_or mask j false)) (range_with_len 0 size)

abbrev pub permits_all : ℕ → List Bool → Bool
permits_all size mask = list_all (λ j. slice_index_or mask j false) (range_with_len 0 size)

-- The cube with the mask of one more label, after the others.
abbrev pub with_mask : MaskedLabels → ℕ → List Bool → MaskedLabels
with_mask cube label mask =
    record { empty = cube.empty; masks = cube.masks ++ record { label = label; mask = mask } ∷ [] }

-- The cube with one more label, after the others, which permits only the mask's positions. A mask
-- that permits all positions is left out, and one that permits none leaves no choice.
abbrev pub restricted : MaskedLabels → ℕ → List Bool → ℕ → MaskedLabels
restricted cube label mask size =
    if permits_all size mask then cube
    else if permits_none size mask then record { empty = true; masks = cube.masks }
    else with_mask cube label mask
