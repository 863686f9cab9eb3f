use Rattle.std.proofs.Common.{drop}
use Rattle.am_complete.specs.AskedLabel.{with_asked}
use Rattle.am_asked.proofs.PlacedSteps.{IsOnTheWay}
use Rattle.am_asked.proofs.asked.add_equal_matchers.Given as goal

-- the labels so far, with the matchers that are left, give the labels of all matchers
abbrev pub invariant-loop-made : goal.invariant-loop-made
invariant-loop-made l =
    IsOnTheWay with_asked l.fn.gathering l.equal l.gathering (drop l.made-index l.equal)
