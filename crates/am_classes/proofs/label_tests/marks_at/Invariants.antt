use Rattle.std.proofs.Common.{◌≡◌, ℕ, ◌<◌, false, length, take, slice_index_or}
use Rattle.am_scan.specs.Closure.{contains}
use Rattle.am_classes.proofs.label_tests.marks_at.Given as goal

abbrev pub invariant-loop-place : goal.invariant-loop-place
invariant-loop-place l = record {
  count : length l.marks.items ≡ l.count;
  marked : (k : ℕ) → k < l.count
      → slice_index_or l.marks.items k false ≡ contains (take l.place-index l.places) k;
}
