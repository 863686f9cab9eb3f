use Rattle.std.proofs.Common.{◌≡◌, ◌++◌, not, take}
use Rattle.std.specs.List.{filter}
use Rattle.am_alerting_rules.specs.RuleView.{pairs_view}
use Rattle.am_rule_outcomes.specs.ShownLabels.{fixed_shown, has_name}
use Rattle.am_rule_outcomes.proofs.shown_labels.shown_labels.Given as goal

-- the labels so far
abbrev pub invariant-loop-label : goal.invariant-loop-label
invariant-loop-label l =
    pairs_view l.labels.items ≡ fixed_shown (pairs_view l.fixed)
    ++ filter (λ p. not (has_name (pairs_view l.fixed) p.0)) (pairs_view (take l.label-index l.label-items))
