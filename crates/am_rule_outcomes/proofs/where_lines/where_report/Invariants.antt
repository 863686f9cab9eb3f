use Rattle.std.proofs.Common.{◌≡◌, ◌≤◌, map, option_copied, take}
use Rattle.std.specs.List.{count_by, flat_map}
use Rattle.am_config.specs.ConfigView.{config_view}
use Rattle.am_report_texts.specs.LineView.{line_view}
use Rattle.am_rule_outcomes.specs.NarrowingView.{rule_outcomes_view}
use Rattle.am_rule_outcomes.specs.RuleOutcomes.{with_outcomes}
use Rattle.am_rule_outcomes.specs.WhereLines.{has_lines, rule_lines}
use Rattle.am_rule_outcomes.proofs.where_lines.where_report.Given as goal

-- the lines of the rules so far, and how many of them have lines
abbrev pub invariant-loop-i : goal.invariant-loop-i
invariant-loop-i l = record {
  lines : map line_view l.lines.items
      ≡ flat_map (rule_lines (config_view l.config) (option_copied l.asked))
      (take l.i (with_outcomes l.rules (rule_outcomes_view l.found)));
  shown : l.shown
      ≡ count_by (λ rule. has_lines (rule_lines (config_view l.config) (option_copied l.asked) rule))
      (take l.i (with_outcomes l.rules (rule_outcomes_view l.found)));
  few : l.shown ≤ l.i;
}
