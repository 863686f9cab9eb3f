use Rattle.std.proofs.Common.{arith}
use Rattle.std.proofs.lemmas.Result.{err_from_is_err_and}
use Rattle.am_labels.proofs.MatcherTextPieces.{told_at_piece, refused_at_piece, told_past_pieces}
use Rattle.am_labels.proofs.matcher_text.read_pieces.Goals as goal

pub returns-in_err-read_piece : goal.returns-in_err-read_piece
returns-in_err-read_piece c =
    let p = err_from_is_err_and c.from_residual.result c.from_residual.ensures.1 in
    rw (p.1, p.2)
    (refused_at_piece (λ piece. piece.now) c.args.pieces.now c.loop-piece.piece-index
    c.loop-piece.list.items _ c.loop-piece.invariant _ c.in_err-read_piece.field-0.0 (omega arith)
    c.in_err-read_piece.ensures)

pub loop-piece-preserved : goal.loop-piece-preserved
loop-piece-preserved c =
    rw c.in_ok-push.ensures.items
    (told_at_piece (λ piece. piece.now) c.args.pieces.now c.loop-piece.piece-index
    c.loop-piece.list.items _ c.loop-piece.invariant _ c.in_ok-read_piece.field-0 (omega arith)
    c.in_ok-read_piece.ensures)

pub returns : goal.returns
returns c =
    told_past_pieces (λ piece. piece.now) c.args.pieces.now c.loop-piece.piece-index
    c.loop-piece.list.items _ c.loop-piece.invariant (omega arith)
