use Rattle.std.proofs.Common.{◌≡◌, length}
use Rattle.am_universe.specs.LineTable.{IsLineTable}
use Rattle.am_universe.proofs.LineTableLemmas.{pieces_text}
use Rattle.am_universe.proofs.line_table.LineTable.write_line.Given as goal

-- The line has the pieces of the first labels, and the table has not changed.
abbrev pub invariant-loop-i : goal.invariant-loop-i
invariant-loop-i g l = record {
  count : l.i-end ≡ length l.fn.self;
  same : l.self-inside.universe.value ≡ l.fn.self;
  table : IsLineTable l.fn.self l.self-inside.labels.items l.self-inside.line;
  text : l.self-inside.line.items ≡ pieces_text l.fn.self l.choice l.i;
}
