use Rattle.std.proofs.Common.{◌≡◌, length}
use Rattle.am_classes.specs.Live.{AreLast}
use Rattle.am_classes.proofs.text_ends.last_bytes.Given as goal

abbrev pub invariant-loop-byte : goal.invariant-loop-byte
invariant-loop-byte l = record {
  count : length l.lasts.items ≡ l.byte;
  last : AreLast l.automata l.lasts.items;
}
