use Rattle.std.proofs.Common.{◌≡◌, ◌≤◌, ◌++◌, map}
use Rattle.std.specs.Str.{IsCharBoundary}
use Rattle.am_labels.specs.MatcherText.{matcher_pieces}
use Rattle.am_labels.specs.QuoteState.{IsStateAt}
use Rattle.am_labels.proofs.MatcherTextPieces.{pieces_left}
use Rattle.am_labels.proofs.matcher_text.pieces_of.Given as goal

abbrev pub invariant-loop-i : goal.invariant-loop-i
invariant-loop-i l = record {
  state : IsStateAt l.text l.i l.state;
  behind : l.start ≤ l.i;
  boundary : IsCharBoundary l.text l.start;
  told : map (λ piece. piece.now) l.pieces.items ++ pieces_left l.text l.start l.i
      ≡ matcher_pieces l.text;
}
