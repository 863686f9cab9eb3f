use Rattle.std.proofs.Common.{ap, ◌∙◌, subst}
use Rattle.std.proofs.lemmas.Result.{IfOk-weaker}
use Rattle.am_eval.specs.World.{World}
use Rattle.am_report_texts.specs.EachOnce.{each_once}
use Rattle.am_alerts.specs.MutingRoutes.{intervals_among}
use Rattle.am_alerts.specs.Outcomes.{AreOutcomes}
use Rattle.am_alerts.specs.RouteEnds.{ends_of}
use Rattle.am_alerts.proofs.outcomes.Outcomes.muting_routes.Goals as goal

pub returns : goal.returns
returns c =
    let w = c.args.self.now in
    let kept = c.self.inside in
    let all = subst (λ w. AreOutcomes w kept.labels kept.ends.items kept.receivers.items
    kept.silencers.items kept.inhibitors.items) c.self.view_is c.self.invariant in
    let config = c.config.ensures.config ∙ ap (λ (w : World). w.config) c.self.view_is in
    record {
      intervals = IfOk-weaker c.muting_routes.result _ _ (λ muting tell i s at.
          ap each_once (tell i
          ∙ (λ j. intervals_among (config j) (ends_of (c.as_slice.ensures.value j) i))
          ∙ ap (intervals_among w.config) (all.all_ends i s at))) c.muting_routes.ensures;
    }
