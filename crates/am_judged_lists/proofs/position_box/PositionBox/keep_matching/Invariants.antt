use Rattle.std.proofs.Common.{take}
use Rattle.am_judged_lists.proofs.BoxLemmas.{AreMatching}
use Rattle.am_judged_lists.proofs.position_box.PositionBox.keep_matching.Given as goal

-- the choices that fit the masks so far
abbrev pub invariant-loop-mask : goal.invariant-loop-mask
invariant-loop-mask l =
    AreMatching l.initial.self l.self (take l.mask-index l.mask-items)
