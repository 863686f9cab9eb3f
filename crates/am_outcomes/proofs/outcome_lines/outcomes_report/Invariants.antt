use Rattle.std.proofs.Common.{◌≡◌, map, take}
use Rattle.am_config.specs.ConfigView.{config_view}
use Rattle.am_report_texts.specs.LineView.{line_view}
use Rattle.am_outcomes.specs.OutcomeLines.{outcome_line}
use Rattle.am_outcomes.proofs.outcome_lines.outcomes_report.Given as goal

-- the lines of the outcomes so far
abbrev pub invariant-loop-i : goal.invariant-loop-i
invariant-loop-i l =
    map line_view l.lines.items
    ≡ map (outcome_line l.universe (config_view l.config)) (take l.i l.outcomes)
