use Rattle.am_first_sets.specs.PossibleChoices.{IsPossible}
use Rattle.am_route_alerts.proofs.ImpliedLemmas.{LeavesOut}
use Rattle.am_route_alerts.proofs.implied.leave_out_implied.Given as goal

-- no choice notices what lost its name, and what was looked at is needed
abbrev pub invariant-loop-i : goal.invariant-loop-i
invariant-loop-i l = LeavesOut (IsPossible l.possible) l.from l.i l.fn.literals l.literals
