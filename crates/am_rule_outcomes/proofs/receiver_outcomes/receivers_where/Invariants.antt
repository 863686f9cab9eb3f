use Rattle.std.proofs.Common.{◌≡◌, ℕ, List, take}
use Rattle.am_rule_outcomes.specs.ReceiverOutcomes.{some_with}
use Rattle.am_rule_outcomes.proofs.ReceiverOutcomes.{has_receivers}
use Rattle.am_rule_outcomes.proofs.receiver_outcomes.receivers_where.Given as goal

-- the receivers so far
abbrev pub invariant-loop-i : goal.invariant-loop-i
invariant-loop-i l = (rs : List ℕ)
    → has_receivers l.found.keys rs ≡ some_with l.are_silenced (take l.i l.outcomes) rs
