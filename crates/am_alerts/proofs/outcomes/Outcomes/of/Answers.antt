use Rattle.std.proofs.Common.{List, length, ap, ◌∙◌, sym, subst, subst₂}
use Rattle.am_alerts.specs.declared.route_ends.RouteEnds.{RouteEnds}
use Rattle.am_universe.specs.LabelSet.{LabelMap}
use Rattle.am_config.specs.ConfigFile.{Configuration}
use Rattle.am_eval.specs.Routing.{ends, receivers}
use Rattle.am_eval.specs.Silencing.{silencers}
use Rattle.am_eval.specs.Inhibition.{inhibitors}
use Rattle.am_alerts.specs.AlertLists.{AreLists}
use Rattle.am_alerts.specs.RouteEnds.{AreEnds}
use Rattle.am_alerts.proofs.outcomes.Outcomes.of.Goals as goal

pub invariant_of-result : goal.invariant_of-result
invariant_of-result c =
    let w = c.args.world.now in
    let labelled = c.in_ok-labels.ensures.alerts ∙ c.alerts.ensures.alerts in
    let all_ends = subst₂ (λ (alerts : List LabelMap) (config : Configuration).
    AreEnds alerts (λ s. ends s config) c.in_ok-ends.ends.items) labelled c.config.ensures.config
    c.in_ok-ends.ensures in
    let rows = subst₂ (λ (config : Configuration) (rows : List RouteEnds).
    AreEnds w.alerts (λ s. ends s config) rows) (sym c.config-2.ensures.config)
    (sym c.as_slice.ensures.value) all_ends in
    record {
      labelled = labelled;
      all_ends = all_ends;
      all_receivers = subst (λ (config : Configuration). AreLists w.alerts (λ s. receivers s config)
          c.in_ok-receivers.receivers.items) c.config-2.ensures.config
          (c.in_ok-receivers.ensures w.alerts (c.len.ensures.count ∙ ap length c.alerts-2.ensures.alerts) rows);
      all_silencers = subst (λ (alerts : List LabelMap). AreLists alerts (silencers w)
          c.in_ok-silencers.silencers.items) labelled c.in_ok-silencers.ensures;
      all_inhibitors = subst (λ (alerts : List LabelMap). AreLists alerts (inhibitors w)
          c.in_ok-inhibitors.inhibitors.items) labelled c.in_ok-inhibitors.ensures;
    }
