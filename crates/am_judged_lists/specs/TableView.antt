-- How a table keeps its cubes in blocks.
use Rattle.std.specs.Prelude.{◌≡◌, ℕ, ◌*◌, ◌<◌, ◌≤◌, List, length, take, drop, slice_get, Some}
use Rattle.am_judged_lists.specs.declared.block.Block.{Block}
use Rattle.am_judged_lists.specs.declared.list_set.TheConstants.{ROOM}
use Rattle.am_judged_lists.specs.Cube.{MaskedLabels}
use Rattle.am_judged_lists.specs.BlockView.{IsBlockOf}

-- The cubes of the block at an index: as many as a set has room for, and fewer in the last block.
abbrev pub part_at : List MaskedLabels → ℕ → List MaskedLabels
part_at cubes i = take ROOM (drop (i * ROOM) cubes)

-- The blocks have all cubes, in order, and none of the blocks is empty.
pub record AreBlocksOf (cubes : List MaskedLabels) (blocks : List Block) : Type 0 where
  pub all : length cubes ≤ length blocks * ROOM
  pub some : (i : ℕ) → i < length blocks → i * ROOM < length cubes
  pub each : (i : ℕ) (block : Block) → slice_get blocks i ≡ Some block
      → IsBlockOf (part_at cubes i) block
