use Rattle.std.proofs.Common.{[], fold, take, ◌≡◌, ◌∷◌}
use Rattle.am_alerting_rules.specs.RuleAlerts.{alert_name, with_fixed}
use Rattle.am_alerting_rules.specs.RuleView.{pairs_view}
use Rattle.am_alerting_rules.proofs.alerting_rule.AlertingRule.fixed_labels.Given as goal

-- the labels so far
abbrev pub invariant-loop-label : goal.invariant-loop-label
invariant-loop-label l =
    pairs_view l.found.items
    ≡ fold with_fixed ((alert_name, l.self.name) ∷ []) (take l.label-index l.self.labels)
