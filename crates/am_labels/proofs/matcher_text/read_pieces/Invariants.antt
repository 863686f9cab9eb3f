use Rattle.std.proofs.Common.{◌≡◌, map, drop}
use Rattle.am_labels.specs.MatcherReading.{read_each_piece}
use Rattle.am_labels.proofs.MatcherTextPieces.{after}
use Rattle.am_labels.proofs.matcher_text.read_pieces.Given as goal

-- The list so far, followed by what the pieces that are left give, is what all pieces give.
abbrev pub invariant-loop-piece : goal.invariant-loop-piece
invariant-loop-piece l =
    after l.list.items (read_each_piece (map (λ piece. piece.now) (drop l.piece-index l.pieces)))
    ≡ read_each_piece (map (λ piece. piece.now) l.pieces)
