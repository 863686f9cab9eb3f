use Rattle.std.proofs.Common.{drop}
use Rattle.am_asked.specs.Placed.{placed_at}
use Rattle.am_asked.proofs.PlacedSteps.{IsOnTheWay}
use Rattle.am_asked.proofs.visiting.visit_matchers.Given as goal

-- the visitor so far, with the matchers that are left, gives the visitor after all matchers
abbrev pub invariant-loop-i : goal.invariant-loop-i
invariant-loop-i g l =
    IsOnTheWay g.V.Visitor.after l.fn.visitor (placed_at l.origin l.matchers) l.visitor
    (placed_at l.origin (drop l.i l.matchers))
