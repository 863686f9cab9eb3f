use Rattle.std.proofs.Common.{◌≡◌, map, take}
use Rattle.am_rule_outcomes.specs.NarrowingView.{receiver_outcome_view}
use Rattle.am_rule_outcomes.specs.ReceiverOutcomes.{receiver_outcome}
use Rattle.am_rule_outcomes.proofs.ReceiverOutcomes.{texts, first_keys, firsts_of}
use Rattle.am_rule_outcomes.proofs.receiver_outcomes.receiver_outcomes.Given as goal

-- the receivers of the outcomes so far
abbrev pub invariant-loop-i : goal.invariant-loop-i
invariant-loop-i l = record {
  seen : texts l.seen.keys ≡ first_keys (firsts_of (take l.i l.outcomes));
  found : map receiver_outcome_view l.found.items
      ≡ map (receiver_outcome l.outcomes) (firsts_of (take l.i l.outcomes));
}
