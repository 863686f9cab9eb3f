use Rattle.std.proofs.Common.{◌≡◌, ℕ}
use Rattle.am_judged_lists.specs.ListSetView.{has}
use Rattle.am_judged_lists.specs.Certainty.{passes}
use Rattle.am_judged_lists.specs.Cube.{verdict_at}
use Rattle.am_judged_lists.proofs.BlockLemmas.{is_before}
use Rattle.am_judged_lists.proofs.block.asked_one_by_one.Given as goal

-- the set has the cubes so far that pass
abbrev pub invariant-loop-k : goal.invariant-loop-k
invariant-loop-k l = (k : ℕ) → has l.set k ≡ is_before (λ cube. passes l.certainty (verdict_at cube l.prefix)) l.cubes l.k k
