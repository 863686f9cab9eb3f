use Rattle.std.proofs.Common.{◌≡◌, ℕ, take}
use Rattle.am_judged_lists.specs.ListSetView.{has}
use Rattle.am_judged_lists.specs.Places.{is_at}
use Rattle.am_judged_lists.proofs.BlockLemmas.{fits_first}
use Rattle.am_judged_lists.proofs.block.Block.passing.Given as goal

-- the cubes that can pass and permit the positions of the labels so far
abbrev pub invariant-loop-rows : goal.invariant-loop-rows
invariant-loop-rows l =
    (k : ℕ) → has l.left k
    ≡ is_at (fits_first l.certainty l.prefix (take l.rows-index l.self.labels.items)) l.cubes k
