use Rattle.std.proofs.Common.{◌≡◌, ◌++◌, ◌∷◌, [], length, map, ap, subst, sym, ◌∙◌, arith}
use Rattle.std.specs.List.{AllByRecursion, range_with_len}
use Rattle.std.proofs.lemmas.List.FromFn.{map-range_with_len_more}
use Rattle.am_config.specs.ConfigView.{config_view}
use Rattle.am_coverage.specs.FirstEnds.{earliest_to}
use Rattle.am_coverage.specs.CoverageView.{receiver_found, IsShownReceiver}
use Rattle.am_coverage.proofs.SeenEnds.{receiver_alike, receivers_shown}
use Rattle.am_coverage.proofs.receiver_coverage.receivers_covered.Goals as goal

pub loop-receiver-preserved : goal.loop-receiver-preserved
loop-receiver-preserved c =
    let s = c.args.space.now in
    let config = config_view c.args.config.now in
    let i = c.loop-receiver.receiver in
    let is = c.earliest_to.ensures.earliest
    ∙ ap (λ ends. earliest_to ends i) (c.as_slice.ensures.value ∙ c.in_ok-ends.ensures.ends)
    ∙ receiver_alike s config i in
    c.in_ok-push.ensures.items
    ∙ (λ k. c.loop-receiver.invariant k ++ record { receiver = i; choice = is k } ∷ [])
    ∙ sym (map-range_with_len_more (receiver_found s config) 0 i i (omega arith))

pub returns : goal.returns
returns c =
    let s = c.args.space.now in
    let config = config_view c.args.config.now in
    let n = length config.receivers in
    let whole : c.loop-receiver.receiver ≡ n =
    omega (arith, c.loop-receiver-test.false, c.loop-receiver.auto.receiver-end, c.receivers-receiver-end.ensures.count) in
    let all = c.loop-receiver.invariant
    ∙ ap (λ k. map (receiver_found s config) (range_with_len 0 k)) whole in
    record {
      receivers = all;
      shown = subst (AllByRecursion (IsShownReceiver s.labels config)) (sym all)
          (receivers_shown s config 0 n (omega arith));
    }
