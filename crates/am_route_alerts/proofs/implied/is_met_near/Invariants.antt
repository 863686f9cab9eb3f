use Rattle.std.proofs.Common.{◌≡◌, ◌++◌, List}
use Rattle.am_first_sets.specs.declared.candidate.Candidate.{Candidate}
use Rattle.am_route_alerts.proofs.implied.is_met_near.Given as goal

-- The literals come first, and hints behind them.
abbrev pub invariant-loop-hint : goal.invariant-loop-hint
invariant-loop-hint l = (more : List Candidate) × (l.near.items ≡ l.literals ++ more)
