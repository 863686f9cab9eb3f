use Rattle.std.proofs.Common.{◌≡◌, map, take}
use Rattle.am_universe.specs.LineTable.{piece_text}
use Rattle.am_universe.specs.UniverseView.{texts_of}
use Rattle.am_universe.proofs.line_table.pieces_of.Given as goal

-- the pieces of the first values
abbrev pub invariant-loop-value : goal.invariant-loop-value
invariant-loop-value l =
    map (λ piece. piece.items) l.pieces.items ≡ map (piece_text l.label.name) (texts_of (take l.value-index l.value-items))
