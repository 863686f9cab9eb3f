use Rattle.std.proofs.Common.{◌≡◌, drop}
use Rattle.am_alerting_rules.specs.RuleView.{pairs_view}
use Rattle.am_rule_outcomes.specs.Narrowing.{fixed_text}
use Rattle.am_rule_outcomes.proofs.narrowing.fixed_text.Given as goal

-- the labels so far have other names
abbrev pub invariant-loop-label : goal.invariant-loop-label
invariant-loop-label l =
    fixed_text (pairs_view l.fixed) l.name
    ≡ fixed_text (pairs_view (drop l.label-index l.fixed)) l.name
