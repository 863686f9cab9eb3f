use Rattle.std.proofs.Common.{◌≡◌, ℕ, List, Some, slice_get}
use Rattle.am_judged_lists.specs.declared.block.LabelRows.{LabelRows}
use Rattle.am_judged_lists.specs.Cube.{MaskedLabels}
use Rattle.am_judged_lists.specs.BlockView.{IsInRows}
use Rattle.am_judged_lists.proofs.BlockLemmas.{AreSaid}
use Rattle.am_judged_lists.proofs.block.rows_of_labels.Given as goal

-- the rows of the labels so far
abbrev pub invariant-loop-label : goal.invariant-loop-label
invariant-loop-label l = record {
  rows : (k : ℕ) (cube : MaskedLabels) (i : ℕ) (rows : LabelRows)
      → slice_get l.cubes k ≡ Some cube → slice_get l.labels.items i ≡ Some rows
      → IsInRows k cube rows;
  said : (k : ℕ) (cube : MaskedLabels) (prefix : List ℕ) → slice_get l.cubes k ≡ Some cube
      → AreSaid cube prefix l.label l.labels.items;
}
