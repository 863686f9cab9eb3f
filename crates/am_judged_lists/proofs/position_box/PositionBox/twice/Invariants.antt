use Rattle.std.proofs.Common.{◌≡◌, ℕ, ◌*◌, ◌/◌, ◌<◌, length}
use Rattle.am_judged_lists.specs.Boxes.{box_permits}
use Rattle.am_judged_lists.proofs.position_box.PositionBox.twice.Given as goal

-- the masks so far, twice
abbrev pub invariant-loop-mask : goal.invariant-loop-mask
invariant-loop-mask l = record {
  long : length l.masks.items ≡ 2 * l.mask-index;
  each : (i p : ℕ) → i < 2 * l.mask-index → box_permits l.masks.items i p ≡ box_permits l.mask-items (i / 2) p;
}
