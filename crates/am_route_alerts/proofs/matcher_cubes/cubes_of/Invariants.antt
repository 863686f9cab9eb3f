use Rattle.std.proofs.Common.{take}
use Rattle.am_route_alerts.specs.MatcherCubes.{AreCubesOf}
use Rattle.am_route_alerts.proofs.matcher_cubes.cubes_of.Given as goal

-- the cubes so far are those of the matchers so far
abbrev pub invariant-loop-i : goal.invariant-loop-i
invariant-loop-i l = AreCubesOf l.universe (take l.i l.matchers) l.cubes.items
