use Rattle.std.proofs.Common.{ap, sym, ◌∙◌, subst, arith}
use Rattle.am_alerts.specs.RouteEnds.{ends_of}
use Rattle.am_alerts.specs.Outcomes.{AreOutcomes}
use Rattle.am_alerts.proofs.AlertListLemmas.{list_read}
use Rattle.am_alerts.proofs.outcomes.Outcomes.at.Goals as goal

pub returns : goal.returns
returns c =
    let i = c.args.position in
    let kept = c.self.inside in
    let all = subst (λ w. AreOutcomes w kept.labels kept.ends.items kept.receivers.items
    kept.silencers.items kept.inhibitors.items) c.self.view_is c.self.invariant in
    let within = c.requires in
    record {
      outcome = λ s at. record {
        ends = ap (λ rows. ends_of rows i) c.as_slice.ensures.value ∙ all.all_ends i s at;
        receivers = c.as_slice-2.ensures.value
            ∙ sym (list_read kept.receivers.items i c.index.result.now
            (omega (arith, within, all.all_receivers.0)) c.index.ensures) ∙ all.all_receivers.1 i s at;
        silencers = c.as_slice-3.ensures.value
            ∙ sym (list_read kept.silencers.items i c.index-2.result.now
            (omega (arith, within, all.all_silencers.0)) c.index-2.ensures) ∙ all.all_silencers.1 i s at;
        inhibitors = c.as_slice-4.ensures.value
            ∙ sym (list_read kept.inhibitors.items i c.index-3.result.now
            (omega (arith, within, all.all_inhibitors.0)) c.index-3.ensures) ∙ all.all_inhibitors.1 i s at;
      };
    }
