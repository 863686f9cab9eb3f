-- The steps seen so far are those of the states so far.
use Rattle.std.proofs.Common.{◌≡◌, ◌≤◌, length, take}
use Rattle.am_scan.specs.Column.{first_edges}
use Rattle.am_scan.proofs.column.has_edges.Given as goal

abbrev pub invariant-loop-q : goal.invariant-loop-q
invariant-loop-q l = record {
  inside : l.seen ≤ length l.edges;
  same : take l.seen l.edges ≡ first_edges l.nfa l.byte l.q;
}
