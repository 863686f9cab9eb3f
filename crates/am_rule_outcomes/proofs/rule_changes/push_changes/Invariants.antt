use Rattle.std.proofs.Common.{◌≡◌, ◌++◌, map, take, Some}
use Rattle.am_config.specs.ConfigView.{config_view}
use Rattle.am_outcomes.specs.Changes.{changes_of}
use Rattle.am_rule_outcomes.specs.NarrowingView.{narrowed_view}
use Rattle.am_rule_outcomes.specs.RuleChanges.{rule_change}
use Rattle.am_rule_outcomes.specs.RuleOutcomes.{rule_outcomes_shown}
use Rattle.am_rule_outcomes.proofs.rule_changes.push_changes.Given as goal

-- the changes among the outcomes so far
abbrev pub invariant-loop-i : goal.invariant-loop-i
invariant-loop-i l =
    l.changes.items ≡ l.fn.changes.items
    ++ map (rule_change l.rule) (changes_of (config_view l.old) (config_view l.new)
    (take l.i (rule_outcomes_shown l.rule (Some (narrowed_view l.narrowed)))))
