use Rattle.std.proofs.Common.{◌≡◌, ◌++◌, map}
use Rattle.am_report_texts.specs.LineView.{line_view}
use Rattle.am_idle.specs.RuleLines.{rule_lines}
use Rattle.am_reports.proofs.EachLine.{first_lines}
use Rattle.am_reports.proofs.listed_findings.push_rules.Given as goal

-- the lines of the rules so far
abbrev pub invariant-loop-i : goal.invariant-loop-i
invariant-loop-i l =
    map line_view l.lines.items
    ≡ map line_view l.initial.lines.items ++ first_lines rule_lines l.i l.rules l.found
