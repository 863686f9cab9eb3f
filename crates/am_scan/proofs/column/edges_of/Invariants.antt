-- The steps of the states so far.
use Rattle.std.proofs.Common.{◌≡◌}
use Rattle.am_scan.specs.Column.{first_edges}
use Rattle.am_scan.proofs.column.edges_of.Given as goal

abbrev pub invariant-loop-q : goal.invariant-loop-q
invariant-loop-q l = l.edges.items ≡ first_edges l.nfa l.byte l.q
