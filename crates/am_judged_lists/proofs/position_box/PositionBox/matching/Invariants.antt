use Rattle.std.proofs.Common.{take}
use Rattle.am_judged_lists.proofs.BoxLemmas.{AreSeen}
use Rattle.am_judged_lists.proofs.position_box.PositionBox.matching.Given as goal

-- what the masks so far say
abbrev pub invariant-loop-mask : goal.invariant-loop-mask
invariant-loop-mask l =
    AreSeen l.self-inside.masks.items l.cube (take l.mask-index l.mask-items) l.last l.labels
