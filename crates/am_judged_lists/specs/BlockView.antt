-- The sets that a block keeps of its cubes.
use Rattle.std.specs.Prelude.{◌≡◌, ℕ, ◌<◌, ◌≤◌, List, Bool, nat_lt, not, ◌&&◌, ◌||◌}
use Rattle.std.specs.Prelude.{slice_get, slice_index, slice_index_or, length, Some}
use Rattle.std.specs.List.{list_all}
use Rattle.am_judged_lists.specs.declared.block.Block.{Block}
use Rattle.am_judged_lists.specs.declared.block.LabelRows.{LabelRows}
use Rattle.am_judged_lists.specs.declared.list_set.ListSet.{ListSet}
use Rattle.am_judged_lists.specs.declared.list_set.TheConstants.{ROOM}
use Rattle.am_judged_lists.specs.declared.certainty.Certainty.{Certainty}
use Rattle.am_judged_lists.specs.declared.certainty.Certainty.TheVariants.{May, Must}
use Rattle.am_judged_lists.specs.Cube.{MaskedLabels, reaches, permits_at, permits_position}
use Rattle.am_judged_lists.specs.ListSetView.{has}
use Rattle.am_judged_lists.specs.Places.{is_at}

-- All masks of the cube are of labels below a number.
abbrev pub is_within : MaskedLabels → ℕ → Bool
is_within cube len = list_all (λ m. nat_lt m.label len) cube.masks

-- The cube passes at some prefix of this length, as far as the positions are not looked at.
abbrev pub can_pass : Certainty → ℕ → MaskedLabels → Bool
can_pass May len cube = not cube.empty
can_pass Must len cube = not cube.empty && is_within cube len

-- The cube permits the prefix's position of a label, or the prefix has none.
abbrev pub fits_label : List ℕ → ℕ → MaskedLabels → Bool
fits_label prefix label cube =
    not (nat_lt label (length prefix)) || permits_position cube label (slice_index prefix label)

-- The cube forbids no position of the prefix: by its masks, and by the labels of some rows.
abbrev pub fits_masks : List ℕ → MaskedLabels → Bool
fits_masks prefix cube =
    list_all (λ m. not (reaches prefix m) || permits_at prefix m) cube.masks

abbrev pub fit_rows : List ℕ → List LabelRows → MaskedLabels → Bool
fit_rows prefix labels cube = list_all (λ rows. fits_label prefix rows.label cube) labels

-- The set has exactly those of some cubes that pass a test.
abbrev pub IsSetOf : (MaskedLabels → Bool) → List MaskedLabels → ListSet → Type 0
IsSetOf test cubes set = (k : ℕ) → has set k ≡ is_at test cubes k

-- `row_at`: the row of a position. `IsInRows`: the cube at the index `k` is in exactly those rows
-- whose positions it permits.
abbrev pub row_at : List ListSet → ℕ → ListSet
row_at rows position = slice_index_or rows position (record { bits = 0 })

abbrev pub IsInRows : ℕ → MaskedLabels → LabelRows → Type 0
IsInRows k cube rows =
    (position : ℕ) → position < length rows.rows.items
    → has (row_at rows.rows.items position) k ≡ permits_position cube rows.label position

-- A block is that of some cubes.
pub record IsBlockOf (cubes : List MaskedLabels) (block : Block) : Type 0 where
  pub few : length cubes ≤ ROOM
  pub all : IsSetOf (can_pass May 0) cubes block.all
  pub within : (len : ℕ) (set : ListSet) → slice_get block.within.items len ≡ Some set
      → IsSetOf (can_pass Must len) cubes set
  pub rows : (k : ℕ) (cube : MaskedLabels) (i : ℕ) (rows : LabelRows)
      → slice_get cubes k ≡ Some cube → slice_get block.labels.items i ≡ Some rows
      → IsInRows k cube rows
  pub covered : (k : ℕ) (cube : MaskedLabels) (prefix : List ℕ) → slice_get cubes k ≡ Some cube
      → length prefix < length block.within.items
      → fit_rows prefix block.labels.items cube ≡ fits_masks prefix cube
