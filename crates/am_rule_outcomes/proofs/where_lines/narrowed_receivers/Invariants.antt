use Rattle.std.proofs.Common.{◌≡◌, map, take}
use Rattle.am_rule_outcomes.specs.NarrowingView.{narrowed_receivers_view}
use Rattle.am_rule_outcomes.specs.ReceiverOutcomes.{receiver_outcomes}
use Rattle.am_rule_outcomes.proofs.where_lines.narrowed_receivers.Given as goal

-- the receivers so far
abbrev pub invariant-loop-outcomes : goal.invariant-loop-outcomes
invariant-loop-outcomes l =
    map narrowed_receivers_view l.each.items
    ≡ map (λ outcomes. (l.found.universe, receiver_outcomes outcomes))
    (take l.outcomes-index l.found.each.items)
