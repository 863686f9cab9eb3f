use Rattle.std.proofs.Common.{◌≡◌, take}
use Rattle.am_outcomes.proofs.handling.positions_of.Given as goal

-- the positions so far
abbrev pub invariant-loop-position : goal.invariant-loop-position
invariant-loop-position l = l.positions.items ≡ take l.position-index l.position-items
