use Rattle.std.proofs.Common.{◌++◌, [], ap, ◌∙◌, map, if◌then◌else◌}
use Rattle.std.proofs.lemmas.List.{map-id}
use Rattle.am_universe.specs.LabelSet.{LabelMap}
use Rattle.am_config.specs.ConfigView.{config_view}
use Rattle.am_eval.specs.Routing.{ends}
use Rattle.am_alerts.specs.RouteEnds.{ends_of}
use Rattle.am_alerts.proofs.AlertListLemmas.{all_flags}
use Rattle.am_alerts.proofs.alert_ends.ends_of_alerts.Goals as goal

pub returns : goal.returns
returns c =
    let alerts = c.args.labels.now in
    let all_ends = λ (s : LabelMap). ends s (config_view c.args.config.now) in
    let adds = rw (
      c.as_slice.ensures.value,
      c.in_ok-all.ensures.all,
      c.root-2.ensures.steps,
      c.root.ensures.root,
    ) at c.in_ok-add_ends.ensures.added in
    λ i s at. adds i s at
    ∙ ap (λ b. ends_of c.new-found.result.items i ++ (if b then map (λ below. below) (all_ends s) else []))
    (all_flags alerts i s at)
    ∙ ap (λ rows. ends_of rows i ++ map (λ below. below) (all_ends s)) c.new-found.ensures.items
    ∙ map-id (all_ends s)
