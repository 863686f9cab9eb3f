use Rattle.std.proofs.Common.{◌<◌, ℕ, slice_index}
use Rattle.am_scan.proofs.lost.class_count.Given as goal

abbrev pub invariant-loop-class : goal.invariant-loop-class
invariant-loop-class l = record {
  some : 0 < l.count;
  each : (k : ℕ) → k < l.class-index → slice_index l.classes k < l.count;
}
