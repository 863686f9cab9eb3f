use Rattle.am_asked.proofs.PlacedSteps.{IsOnTheWay}
use Rattle.am_unseen.specs.Unseen.{placed_in_silences_left}
use Rattle.am_unseen.proofs.SilenceSteps.{left_from}
use Rattle.am_unseen.proofs.silences_left.visit_silences_left.Given as goal

-- the visitor so far, continued with the silences to come, gives the visitor after all of them
abbrev pub invariant-loop-i : goal.invariant-loop-i
invariant-loop-i g l =
    IsOnTheWay g.V.Visitor.after l.fn.visitor (placed_in_silences_left l.world) l.visitor
    (left_from l.world l.i)
