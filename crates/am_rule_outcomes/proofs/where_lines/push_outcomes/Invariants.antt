use Rattle.std.proofs.Common.{◌≡◌, ◌++◌, map, take, option_copied}
use Rattle.std.specs.List.{filter}
use Rattle.am_config.specs.ConfigView.{config_view}
use Rattle.am_report_texts.specs.LineView.{line_view}
use Rattle.am_alerting_rules.specs.RuleAlerts.{fixed_labels}
use Rattle.am_rule_outcomes.specs.NarrowingView.{receiver_outcome_view}
use Rattle.am_rule_outcomes.specs.ReceiverOutcomes.{with_shown}
use Rattle.am_rule_outcomes.specs.ShownLabels.{shown_labels}
use Rattle.am_rule_outcomes.specs.WhereLines.{is_asked, where_line}
use Rattle.am_rule_outcomes.proofs.where_lines.push_outcomes.Given as goal

-- the lines of the outcomes so far
abbrev pub invariant-loop-outcome : goal.invariant-loop-outcome
invariant-loop-outcome l =
    map line_view l.lines.items ≡ map line_view l.fn.lines.items
    ++ map (where_line (config_view l.config) l.rule) (filter (is_asked (option_copied l.asked))
    (map (with_shown (shown_labels (fixed_labels l.rule) l.narrowed.universe.now))
    (map receiver_outcome_view (take l.outcome-index l.narrowed.outcomes.items))))
