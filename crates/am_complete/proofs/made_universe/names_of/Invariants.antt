use Rattle.std.proofs.Common.{◌≡◌, map, take}
use Rattle.am_universe.specs.Universe.{names}
use Rattle.am_complete.proofs.made_universe.names_of.Given as goal

-- the names so far are those of the labels so far
abbrev pub invariant-loop-i : goal.invariant-loop-i
invariant-loop-i l = map (λ n. n.now) l.names.items ≡ take l.i (names l.universe)
