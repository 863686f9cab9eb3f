use Rattle.std.proofs.Common.{◌≡◌, vec_len}
use Rattle.am_scan.specs.Lost.{AreUnfound}
use Rattle.am_scan.proofs.lost.unfound.Given as goal

abbrev pub invariant-loop-row : goal.invariant-loop-row
invariant-loop-row l = record {
  count : vec_len l.marks ≡ l.row-index;
  unfound : AreUnfound l.rows l.marks.items;
}
