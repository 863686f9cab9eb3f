use Rattle.std.proofs.Common.{◌≡◌, take}
use Rattle.am_coverage.specs.FirstEnds.{earliest_to}
use Rattle.am_coverage.proofs.receiver_coverage.earliest_to.Given as goal

-- the earliest of the ends so far
abbrev pub invariant-loop-end : goal.invariant-loop-end
invariant-loop-end l = l.first ≡ earliest_to (take l.end-index l.ends) l.receiver
