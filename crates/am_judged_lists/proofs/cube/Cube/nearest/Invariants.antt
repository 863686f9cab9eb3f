use Rattle.std.proofs.Common.{◌≡◌, length}
use Rattle.am_judged_lists.proofs.cube.Cube.nearest.Given as goal

abbrev pub invariant-loop-label : goal.invariant-loop-label
invariant-loop-label l = length l.nearest ≡ l.label
