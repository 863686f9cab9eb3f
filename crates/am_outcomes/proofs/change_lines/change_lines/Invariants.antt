use Rattle.std.proofs.Common.{◌≡◌, map, take}
use Rattle.am_config.specs.ConfigView.{config_view}
use Rattle.am_report_texts.specs.LineView.{line_view}
use Rattle.am_outcomes.specs.ChangeLines.{change_line}
use Rattle.am_outcomes.proofs.change_lines.change_lines.Given as goal

-- the lines so far
abbrev pub invariant-loop-change : goal.invariant-loop-change
invariant-loop-change l =
    map line_view l.lines.items
    ≡ map (change_line (config_view l.old) (config_view l.new)) (take l.change-index l.changes)
