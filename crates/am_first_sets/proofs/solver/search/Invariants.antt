use Rattle.std.proofs.Common.{◌≡◌, length}
use Rattle.am_first_sets.specs.Solving.{marked}
use Rattle.am_first_sets.proofs.SolverLemmas.{AreLeft, weight}
use Rattle.am_first_sets.proofs.solver.search.Given as goal

-- what the boxes on the stack leave to look at
abbrev pub invariant-loop-positions : goal.invariant-loop-positions
invariant-loop-positions l = record {
  long : length l.used ≡ length l.unwanted;
  left : AreLeft l.fn.start (marked l.used l.unwanted) l.stack.items;
  same : l.budget ≡ l.fn.budget;
}

-- a box is replaced by others with fewer positions
abbrev pub decreases-loop-positions : goal.decreases-loop-positions
decreases-loop-positions l = weight l.stack.items
