use Rattle.std.proofs.Common.{◌≡◌, take}
use Rattle.std.specs.List.{flat_map}
use Rattle.serde_json.specs.View.{members_view}
use Rattle.am_report_texts.specs.LineData.{piece_members, with_members}
use Rattle.am_report_texts.specs.LineView.{piece_view}
use Rattle.am_report_texts.proofs.lines_json.put_pieces.Given as goal

abbrev pub invariant-loop-piece : goal.invariant-loop-piece
invariant-loop-piece l =
    members_view l.object.entries ≡ with_members (members_view l.initial.object.entries)
    (flat_map (λ p. piece_members (piece_view p)) (take l.piece-index l.pieces))
