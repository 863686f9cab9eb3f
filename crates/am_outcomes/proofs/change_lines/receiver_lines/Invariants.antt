use Rattle.std.proofs.Common.{◌≡◌, map, take}
use Rattle.am_report_texts.specs.LineView.{line_view}
use Rattle.am_outcomes.specs.ChangeLines.{receiver_line}
use Rattle.am_outcomes.specs.OutcomesView.{founds_view}
use Rattle.am_outcomes.proofs.change_lines.receiver_lines.Given as goal

-- the lines so far
abbrev pub invariant-loop-receiver : goal.invariant-loop-receiver
invariant-loop-receiver l =
    map line_view l.lines.items
    ≡ map (receiver_line l.word) (founds_view (take l.receiver-index l.found))
