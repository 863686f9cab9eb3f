use Rattle.std.proofs.Common.{◌≡◌, ◌++◌, map, take}
use Rattle.am_report_texts.specs.LineView.{line_view}
use Rattle.am_differences.specs.PartLines.{rule_line}
use Rattle.am_differences.specs.PartsView.{rule_view}
use Rattle.am_differences.proofs.lines.push_rule_lines.Given as goal

abbrev pub invariant-loop-rule : goal.invariant-loop-rule
invariant-loop-rule l =
    map line_view l.lines.items
    ≡ map line_view l.initial.lines.items
    ++ map (rule_line l.presence) (map rule_view (take l.rule-index l.rule-items))
