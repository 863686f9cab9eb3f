use Rattle.std.proofs.Common.{◌≡◌, ℕ}
use Rattle.am_judged_lists.specs.ListSetView.{has}
use Rattle.am_judged_lists.specs.BlockView.{can_pass}
use Rattle.am_judged_lists.proofs.BlockLemmas.{is_before}
use Rattle.am_judged_lists.proofs.block.cubes_that_can_pass.Given as goal

-- the set has the cubes so far that pass
abbrev pub invariant-loop-k : goal.invariant-loop-k
invariant-loop-k l = (k : ℕ) → has l.set k ≡ is_before (can_pass l.certainty l.len) l.cubes l.k k
