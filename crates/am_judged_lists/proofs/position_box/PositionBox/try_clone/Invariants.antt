use Rattle.std.proofs.Common.{◌≡◌, take}
use Rattle.am_judged_lists.proofs.position_box.PositionBox.try_clone.Given as goal

-- the masks so far
abbrev pub invariant-loop-mask : goal.invariant-loop-mask
invariant-loop-mask l = l.masks.items ≡ take l.mask-index l.mask-items
