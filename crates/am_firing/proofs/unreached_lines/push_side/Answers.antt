-- A side that matches no alert.
use Rattle.std.proofs.Common.{refl}
use Rattle.std.proofs.lemmas.List.{map-append}
use Rattle.am_report_texts.specs.LineView.{line_view}
use Rattle.am_firing.proofs.unreached_lines.push_side.Goals as goal

pub returns-in_ok-push : goal.returns-in_ok-push
returns-in_ok-push c =
    rw (
      c.in_ok-push.ensures.items,
      map-append line_view,
      c.in_ok-side_line.ensures,
      c.if-not-is_matched.true,
    ) refl
