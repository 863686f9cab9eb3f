use Rattle.std.proofs.Common.{◌≡◌, ℕ, ◌<◌, Some, not, ◌||◌, nat_lt, slice_get, length}
use Rattle.am_judged_lists.specs.ListSetView.{has}
use Rattle.am_judged_lists.specs.BlockView.{row_at}
use Rattle.am_judged_lists.specs.Cube.{MaskedLabels, permits_position}
use Rattle.am_judged_lists.proofs.block.LabelRows.of.Given as goal

-- each cube so far is in exactly the rows of the positions that it permits, and the others are in
-- all rows
abbrev pub invariant-loop-k : goal.invariant-loop-k
invariant-loop-k l =
    (i : ℕ) (cube : MaskedLabels) (position : ℕ) → slice_get l.cubes i ≡ Some cube
    → position < length l.rows.items
    → has (row_at l.rows.items position) i
    ≡ (not (nat_lt i l.k) || permits_position cube l.label position)
