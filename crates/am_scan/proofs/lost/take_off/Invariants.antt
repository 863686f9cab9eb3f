-- As long as nothing has changed, each byte leads from a mark so far to a mark.
use Rattle.std.proofs.Common.{◌≡◌, ◌≤◌, ℕ, true, false, length, slice_index_or}
use Rattle.am_scan.specs.Lost.{AreUnfound, LeadsToMarked}
use Rattle.am_scan.proofs.lost.take_off.Given as goal

abbrev pub invariant-loop-i : goal.invariant-loop-i
invariant-loop-i l = record {
  count : length l.marks ≡ length l.fn.marks;
  unfound : AreUnfound l.rows l.marks;
  same : l.changed ≡ false → (n : ℕ) → l.i ≤ n → slice_index_or l.marks n false ≡ true
      → LeadsToMarked l.rows l.classes l.marks n;
}
