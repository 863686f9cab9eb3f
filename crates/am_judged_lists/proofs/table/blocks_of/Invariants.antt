use Rattle.std.proofs.Common.{◌≡◌, ℕ, length, slice_get, Some}
use Rattle.am_judged_lists.specs.declared.block.Block.{Block}
use Rattle.am_judged_lists.specs.BlockView.{IsBlockOf}
use Rattle.am_judged_lists.specs.TableView.{part_at}
use Rattle.am_judged_lists.proofs.table.blocks_of.Given as goal

-- the blocks so far
abbrev pub invariant-loop-i : goal.invariant-loop-i
invariant-loop-i l = record {
  count : length l.blocks.items ≡ l.i;
  each : (i : ℕ) (block : Block) → slice_get l.blocks.items i ≡ Some block
      → IsBlockOf (part_at l.cubes i) block;
}
