use Rattle.std.proofs.Common.{◌≡◌, map, take}
use Rattle.am_report_texts.specs.LineView.{line_view}
use Rattle.am_universe_command.specs.CheckLines.{state_line}
use Rattle.am_universe_command.proofs.check_lines.check_report.Given as goal

abbrev pub invariant-loop-state : goal.invariant-loop-state
invariant-loop-state l =
    map line_view l.lines.items ≡ map state_line (take l.state-index l.states)
