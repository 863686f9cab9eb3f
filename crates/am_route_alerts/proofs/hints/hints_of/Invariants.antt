use Rattle.std.proofs.Common.{◌≤◌, length}
use Rattle.am_route_alerts.proofs.hints.hints_of.Given as goal

abbrev pub invariant-loop-label : goal.invariant-loop-label
invariant-loop-label l = length l.choice ≤ l.label
