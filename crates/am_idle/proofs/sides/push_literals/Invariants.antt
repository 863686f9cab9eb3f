use Rattle.std.proofs.Common.{◌≡◌, ◌++◌, List, take}
use Rattle.am_first_sets.specs.declared.candidate.Candidate.{Candidate}
use Rattle.am_idle.specs.RuleChoices.{AreWantedFor, AreAllNamed}
use Rattle.am_idle.proofs.sides.push_literals.Given as goal

-- the literals so far ask for the cubes so far
abbrev pub invariant-loop-i : goal.invariant-loop-i
invariant-loop-i l =
    (more : List Candidate) × (l.literals.items ≡ l.fn.literals.items ++ more)
    × AreWantedFor (take l.i l.cubes) more × AreAllNamed more
