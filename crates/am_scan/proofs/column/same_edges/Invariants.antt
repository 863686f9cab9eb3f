-- The steps so far are the same.
use Rattle.std.proofs.Common.{◌≡◌, take}
use Rattle.am_scan.proofs.column.same_edges.Given as goal

abbrev pub invariant-loop-i : goal.invariant-loop-i
invariant-loop-i l = take l.i l.edges ≡ take l.i l.others
