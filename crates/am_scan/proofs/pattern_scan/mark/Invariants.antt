-- The positions so far are marked.
use Rattle.std.proofs.Common.{◌≡◌, ℕ, ◌<◌, ◌||◌, false, length, take, slice_index_or}
use Rattle.am_scan.specs.Closure.{contains}
use Rattle.am_scan.proofs.pattern_scan.mark.Given as goal

abbrev pub invariant-loop-place : goal.invariant-loop-place
invariant-loop-place l =
    (q : ℕ) → q < length l.marks
    → slice_index_or l.marks q false
    ≡ (slice_index_or l.fn.marks q false || contains (take l.place-index l.places) q)
