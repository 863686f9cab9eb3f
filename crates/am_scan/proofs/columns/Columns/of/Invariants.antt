-- The classes of the bytes so far.
use Rattle.std.proofs.Common.{◌≡◌, vec_len}
use Rattle.am_scan.specs.Automaton.{AreClasses}
use Rattle.am_scan.proofs.columns.Columns.of.Given as goal

abbrev pub invariant-loop-byte : goal.invariant-loop-byte
invariant-loop-byte l = record {
  count : vec_len l.classes ≡ l.byte;
  each : AreClasses l.scan l.columns.items l.classes.items;
}
