use Rattle.std.proofs.Common.{◌≡◌, ◌+◌, ◌≤◌, ℕ, List, length, map, take}
use Rattle.am_universe.specs.LineTable.{label_pieces, texts_of_pieces}
use Rattle.am_universe.proofs.LineTableLemmas.{pieces_text}
use Rattle.am_universe.proofs.line_table.LineTable.of.Given as goal

-- The pieces of the first labels are made, and there is room for those that a choice picks.
abbrev pub invariant-loop-label : goal.invariant-loop-label
invariant-loop-label l = record {
  pieces : map texts_of_pieces l.labels.items ≡ map label_pieces (take l.label-index l.universe);
  room : (c : List ℕ) → length c ≡ length l.universe → 3 + length (pieces_text l.universe c l.label-index) ≤ l.room;
}
