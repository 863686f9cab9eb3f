use Rattle.std.proofs.Common.{◌≡◌, ◌<◌, ℕ, true, false, slice_index, slice_index_or}
use Rattle.am_scan.proofs.lost.are_marked.Given as goal

abbrev pub invariant-loop-number : goal.invariant-loop-number
invariant-loop-number l =
    (k : ℕ) → k < l.number-index → slice_index_or l.marks (slice_index l.numbers k) false ≡ true
