use Rattle.std.proofs.Common.{ℕ, arith, refl}
use Rattle.std.specs.List.{list_any}
use Rattle.std.proofs.lemmas.List.FromFn.{map-range_with_len_more}
use Rattle.am_rule_outcomes.specs.NarrowingView.{rule_outcomes_view}
use Rattle.am_reports.specs.RulesReach.{goes_by, lists_found}
use Rattle.am_reports.proofs.rules_reach.reached_in.Goals as goal

pub loop-receiver-preserved : goal.loop-receiver-preserved
loop-receiver-preserved c =
    let receiver = c.loop-receiver.receiver in
    let goes = λ (r : ℕ). list_any (goes_by r) (lists_found (rule_outcomes_view c.args.found.now)) in
    rw (
      c.in_ok-push.ensures.items,
      c.some_goes.ensures,
      map-range_with_len_more goes 0 receiver receiver (omega arith),
      c.loop-receiver.invariant,
    ) refl
