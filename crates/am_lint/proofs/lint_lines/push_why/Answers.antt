-- The reason, followed by the label set that does enter.
use Rattle.std.proofs.Common.{append_assoc}
use Rattle.std.proofs.lemmas.List.{map-append}
use Rattle.am_report_texts.specs.LineView.{piece_view}
use Rattle.am_lint.proofs.lint_lines.push_why.Goals as goal

pub returns-in_ok-push-in-Unusual-2 : goal.returns-in_ok-push-in-Unusual-2
returns-in_ok-push-in-Unusual-2 c =
    rw (
      c.in-Unusual.is,
      c.in_ok-push-in-Unusual-2.ensures.items,
      map-append piece_view,
      c.in_ok-push-in-Unusual.ensures.items,
      map-append piece_view,
      c.in_ok-push_reason-in-Unusual.ensures,
      c.in_ok-labels-in-Unusual.ensures.labels,
    ) (simp append_assoc)

pub returns-in_ok-push-in-Undecided : goal.returns-in_ok-push-in-Undecided
returns-in_ok-push-in-Undecided c =
    rw (c.in-Undecided.is, c.in_ok-push-in-Undecided.ensures.items, map-append piece_view)
