use Rattle.std.proofs.Common.{◌≡◌, ℕ, ◌<◌, false}
use Rattle.am_judged_lists.specs.Boxes.{box_permits}
use Rattle.am_first_sets.specs.Solving.{IsLeast}
use Rattle.am_first_sets.proofs.solver.fix_least.Given as goal

-- no position so far is one of `found`, nor that of a choice that avoids the cubes
abbrev pub invariant-loop-position : goal.invariant-loop-position
invariant-loop-position l = record {
  none : (p : ℕ) → p < l.position → box_permits l.found l.label p ≡ false;
  least : IsLeast l.left l.unwanted l.label l.position;
  left : l.left ≡ l.fn.left;
  same : l.found ≡ l.fn.found;
  budget : l.budget ≡ l.fn.budget;
}
