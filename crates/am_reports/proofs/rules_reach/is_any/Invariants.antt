use Rattle.std.proofs.Common.{◌≡◌, drop, true}
use Rattle.std.specs.List.{list_any}
use Rattle.am_rule_outcomes.specs.NarrowingView.{rule_outcomes_view}
use Rattle.am_reports.specs.RulesReach.{lists_found}
use Rattle.am_reports.proofs.rules_reach.is_any.Given as goal

-- the rules that are left decide
abbrev pub invariant-loop-i : goal.invariant-loop-i
invariant-loop-i l =
    list_any (λ lists. true) (lists_found (drop l.i (rule_outcomes_view l.found)))
    ≡ list_any (λ lists. true) (lists_found (rule_outcomes_view l.found))
