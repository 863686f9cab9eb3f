use Rattle.std.proofs.Common.{◌≡◌, take}
use Rattle.am_idle.proofs.known_extents.are_same.Given as goal

-- the matchers so far are the same
abbrev pub invariant-loop-i : goal.invariant-loop-i
invariant-loop-i l = take l.i l.list ≡ take l.i l.other
