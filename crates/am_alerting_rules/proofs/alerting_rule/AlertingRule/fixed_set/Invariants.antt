use Rattle.std.proofs.Common.{◌≡◌, take}
use Rattle.am_list_files.specs.AlertsFile.{labels_of}
use Rattle.am_alerting_rules.specs.RuleView.{pairs_view}
use Rattle.am_alerting_rules.proofs.alerting_rule.AlertingRule.fixed_set.Given as goal

-- the set of the labels so far
abbrev pub invariant-loop-label : goal.invariant-loop-label
invariant-loop-label l = l.set ≡ labels_of (pairs_view (take l.label-index l.label-items))
