use Rattle.std.proofs.Common.{◌≡◌, map}
use Rattle.std.specs.List.{list_any, range_with_len}
use Rattle.am_rule_outcomes.specs.NarrowingView.{rule_outcomes_view}
use Rattle.am_reports.specs.RulesReach.{goes_by, lists_found}
use Rattle.am_reports.proofs.rules_reach.reached_in.Given as goal

-- whether some alert goes to each of the receivers so far
abbrev pub invariant-loop-receiver : goal.invariant-loop-receiver
invariant-loop-receiver l =
    l.receivers.items
    ≡ map (λ r. list_any (goes_by r) (lists_found (rule_outcomes_view l.found)))
    (range_with_len 0 l.receiver)
