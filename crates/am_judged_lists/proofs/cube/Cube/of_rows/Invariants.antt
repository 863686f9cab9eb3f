use Rattle.std.proofs.Common.{◌++◌}
use Rattle.am_judged_lists.proofs.BuildLemmas.{IsBuilt}
use Rattle.am_judged_lists.proofs.cube.Cube.of_rows.Given as goal

abbrev pub invariant-loop-label : goal.invariant-loop-label
invariant-loop-label l = IsBuilt l.universe (l.rows ++ l.more) l.cube l.label
