use Rattle.std.proofs.Common.{◌≡◌, map, take}
use Rattle.am_list_files.specs.AlertsFile.{labels_of}
use Rattle.am_alerting_rules.specs.RuleAlerts.{fixed_labels}
use Rattle.am_reports.proofs.rules_reach.fixed_sets.Given as goal

-- the sets of the rules so far
abbrev pub invariant-loop-rule : goal.invariant-loop-rule
invariant-loop-rule l =
    l.sets.items ≡ map (λ r. labels_of (fixed_labels r)) (take l.rule-index l.rules)
