use Rattle.std.proofs.Common.{◌≡◌, drop}
use Rattle.std.specs.List.{list_any}
use Rattle.am_rule_outcomes.specs.NarrowingView.{rule_outcomes_view}
use Rattle.am_reports.specs.RulesReach.{goes_by, lists_found}
use Rattle.am_reports.proofs.rules_reach.some_goes.Given as goal

-- the rules that are left decide
abbrev pub invariant-loop-i : goal.invariant-loop-i
invariant-loop-i l =
    list_any (goes_by l.receiver) (lists_found (drop l.i (rule_outcomes_view l.found)))
    ≡ list_any (goes_by l.receiver) (lists_found (rule_outcomes_view l.found))
