use Rattle.std.proofs.Common.{◌≡◌, length}
use Rattle.am_first_sets.proofs.SolverLemmas.{AreFixed}
use Rattle.am_first_sets.proofs.solver.first_avoiding.Given as goal

-- the positions so far are those of the first choice
abbrev pub invariant-loop-label : goal.invariant-loop-label
invariant-loop-label l = record {
  long : length l.choice ≡ l.label;
  same : l.budget ≡ l.fn.budget;
  fixed : AreFixed l.initial.left l.left l.cubes.items l.found l.choice;
}
