-- The number for one more alert.
use Rattle.std.proofs.Common.{◌≡◌, ◌<◌, [], ◌∷◌, length, count_by, map, ap, ◌∙◌, append_assoc, arith}
use Rattle.am_universe.proofs.Members.{left_at}
use Rattle.am_universe.proofs.LabelPairLemmas.{found_at}
use Rattle.am_labels.specs.Matcher.{all_hold}
use Rattle.am_eval.specs.Inhibition.{inhibits}
use Rattle.am_firing.specs.Deciding.{IsDecidedBy, values_of}
use Rattle.am_firing.proofs.wide.inhibited_counts.Goals as goal

pub loop-i-preserved : goal.loop-i-preserved
loop-i-preserved c =
    let rule = c.args.rule.now in
    let alerts = c.args.alerts.now in
    let within : c.loop-i.i < length alerts = omega (arith, c.len-i-end.ensures.count, c.loop-i-test.true) in
    let there = found_at alerts c.loop-i.i within in
    let known : IsDecidedBy rule alerts (record {
      source = c.in_ok-matches_of.field-0;
      target = c.in_ok-matches_of-2.field-0;
      values = c.in_ok-values_of_alerts.field-0;
    }) = record {
      source = c.in_ok-matches_of.ensures
          ∙ ap (λ ms. map (λ alert. all_hold alert ms) alerts) c.source.ensures.source;
      target = c.in_ok-matches_of-2.ensures
          ∙ ap (λ ms. map (λ alert. all_hold alert ms) alerts) c.target.ensures.target;
      values = c.in_ok-values_of_alerts.ensures
          ∙ ap (λ names. map (values_of names) alerts) c.equal.ensures.equal;
    } in
    let is : c.count_inhibited.result ≡ count_by (inhibits rule there.0) alerts =
    c.count_inhibited.ensures rule alerts there.0 known there.1 in
    rw (c.in_ok-push.ensures.items, is)
    (append_assoc c.loop-i.counts.items (count_by (inhibits rule there.0) alerts ∷ []) _
    ∙ (rw (left_at alerts c.loop-i.i there.0 there.1) at c.loop-i.invariant))
