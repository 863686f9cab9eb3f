use Rattle.std.proofs.Common.{◌≡◌, ℕ, ◌<◌, List, length, take, true, false, IsTrue, IfSome, IfNone, slice_get, Some}
use Rattle.std.specs.Borrow.{Bor}
use Rattle.am_judged_lists.specs.Cube.{MaskedLabels}
use Rattle.am_judged_lists.specs.Boxes.{IsInBox, IsOpen, count_positions}
use Rattle.am_first_sets.specs.Solving.{avoids, marked, IsNarrowed}
use Rattle.am_first_sets.proofs.solver.narrow.Given as goal

-- the cubes so far miss the box, or one of them has open labels
abbrev pub invariant-loop-index : goal.invariant-loop-index
invariant-loop-index l = record {
  long : length l.used ≡ length l.fn.used;
  narrowed : IsNarrowed l.fn.positions l.positions (marked l.fn.used l.unwanted)
      (marked l.used l.unwanted);
  missed : IfNone l.simplest ((c : List ℕ) → IsInBox l.positions c
      → IsTrue (avoids (take l.index l.unwanted) c));
  fewer : l.is_narrowed ≡ true → count_positions l.positions < count_positions l.fn.positions;
  same : l.is_narrowed ≡ false → l.positions ≡ l.fn.positions;
  found : IfSome l.simplest (λ best. l.is_narrowed ≡ false → (best.index < length l.unwanted)
      × ((cube : Bor MaskedLabels) → slice_get l.unwanted best.index ≡ Some cube
      → IsOpen l.positions cube.now best.label));
}
