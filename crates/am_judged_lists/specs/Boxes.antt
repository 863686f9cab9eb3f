-- Boxes: sets of choices, given by the permitted positions of each label.
use Rattle.std.specs.Prelude.{◌≡◌, ℕ, ◌+◌, ◌<◌, List, [], ◌∷◌, length, slice_index}
use Rattle.std.specs.Prelude.{slice_index_or}
use Rattle.std.specs.Prelude.{Bool, false, not, ◌&&◌, IsTrue, if◌then◌else◌}
use Rattle.am_judged_lists.specs.declared.mask.Part.{Part}
use Rattle.am_judged_lists.specs.declared.mask.Part.TheVariants.{Within, Outside}
use Rattle.am_judged_lists.specs.declared.position_box.Matching.{Matching}
use Rattle.am_judged_lists.specs.declared.position_box.Matching.TheVariants.{Misses, Covers, Opens}
use Rattle.am_judged_lists.specs.Cube.{MaskedLabels, matches, permits_position}

-- A position is in a part of a label if the mask permits it, or if it does not.
abbrev pub is_in_part : Part → Bool → Bool
is_in_part Within permitted = permitted
is_in_part Outside permitted = not permitted

-- A box permits a position of a label. It has a list for each label, with a truth value for each
-- position.
abbrev pub box_permits : List (List Bool) → ℕ → ℕ → Bool
box_permits b label position = slice_index_or (slice_index_or b label []) position false

-- A choice is in a box: it has a position for each label, and the box permits all of them.
-- Source: own choice. The set of these choices is what set theory calls a box: the product of the
-- sets of positions.
-- Example: over two labels, a box permits the positions 0 and 2 of the first and 1 of the second.
-- The choices 0 1 and 2 1 are in it.
pub record IsInBox (b : List (List Bool)) (c : List ℕ) : Type 0 where
  pub long : length c ≡ length b
  pub each : (label : ℕ) → label < length b → IsTrue (box_permits b label (slice_index c label))

-- Each label has some permitted position, so some choice is in the box.
abbrev pub HasChoice : List (List Bool) → Type 0
HasChoice b =
    (label : ℕ) → label < length b → ((position : ℕ) → box_permits b label position ≡ false) → ⊥

-- A label of a box is open for a cube: the box permits some position that the cube permits, and
-- some that it does not.
pub record IsOpen (b : List (List Bool)) (cube : MaskedLabels) (label : ℕ) : Type 0 where
  pub within : label < length b
  pub each : (part : Part) → ((position : ℕ) → (box_permits b label position
      && is_in_part part (permits_position cube label position)) ≡ false) → ⊥

-- How a cube matches the choices of a box. `Misses`: it matches none of them. `Covers`: it matches
-- all. `Opens`: the label is open, and if it is the only one, the cube matches exactly the choices
-- whose position of this label it permits.
abbrev pub IsMatching : List (List Bool) → MaskedLabels → Matching → Type 0
IsMatching b cube Misses = (c : List ℕ) → IsInBox b c → matches cube c ≡ false
IsMatching b cube Covers = (c : List ℕ) → IsInBox b c → IsTrue (matches cube c)
IsMatching b cube (Opens label labels) =
    IsOpen b cube label
    × (labels ≡ 1 → (c : List ℕ) → IsInBox b c
    → matches cube c ≡ permits_position cube label (slice_index c label))

-- The number of positions that a box permits. It is what becomes less in a search.
abbrev pub count_true : List Bool → ℕ
count_true [] = 0
count_true (permitted ∷ mask) = (if permitted then 1 else 0) + count_true mask

abbrev pub count_positions : List (List Bool) → ℕ
count_positions [] = 0
count_positions (mask ∷ b) = count_true mask + count_positions b
