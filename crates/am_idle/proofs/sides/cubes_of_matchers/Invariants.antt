use Rattle.std.proofs.Common.{take}
use Rattle.am_idle.specs.RuleChoices.{AreCubesOfMatchers}
use Rattle.am_idle.proofs.sides.cubes_of_matchers.Given as goal

-- the cubes so far are those of the matchers so far
abbrev pub invariant-loop-i : goal.invariant-loop-i
invariant-loop-i l =
    AreCubesOfMatchers l.universe l.pairs l.side (take l.i l.matchers) l.cubes.items
