use Rattle.std.proofs.Common.{◌≡◌, take}
use Rattle.am_alerting_rules.specs.RuleView.{pairs_view}
use Rattle.am_rule_outcomes.specs.ShownLabels.{fixed_shown}
use Rattle.am_rule_outcomes.proofs.shown_labels.fixed_shown.Given as goal

-- the labels so far
abbrev pub invariant-loop-label : goal.invariant-loop-label
invariant-loop-label l =
    pairs_view l.labels.items ≡ fixed_shown (pairs_view (take l.label-index l.fixed))
