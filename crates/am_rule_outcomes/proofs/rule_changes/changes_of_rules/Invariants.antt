use Rattle.std.proofs.Common.{◌≡◌, take}
use Rattle.am_config.specs.ConfigView.{config_view}
use Rattle.am_rule_outcomes.specs.NarrowingView.{rule_outcomes_view}
use Rattle.am_rule_outcomes.specs.RuleChanges.{changes_of_rules}
use Rattle.am_rule_outcomes.specs.RuleOutcomes.{with_rule_outcomes}
use Rattle.am_rule_outcomes.proofs.rule_changes.changes_of_rules.Given as goal

-- the changes of the rules so far
abbrev pub invariant-loop-i : goal.invariant-loop-i
invariant-loop-i l =
    l.changes.items ≡ changes_of_rules (config_view l.old) (config_view l.new)
    (take l.i (with_rule_outcomes l.rules (rule_outcomes_view l.found)))
