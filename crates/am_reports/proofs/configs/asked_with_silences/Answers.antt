use Rattle.std.proofs.Common.{[], ◌++◌, fold}
use Rattle.std.proofs.lemmas.List.Sums.{fold-append}
use Rattle.am_config.specs.ConfigView.{config_view}
use Rattle.am_complete.specs.AskedLabel.{with_asked}
use Rattle.am_asked.specs.Placed.{placed_in_routes, placed_in_lists}
use Rattle.am_outcomes.specs.Configurations.{Silenced, silences_view}
use Rattle.am_reports.specs.RoutingLabels.{placed_in_active}
use Rattle.am_reports.proofs.LabelsAsked.{labels_asked_of}
use Rattle.am_reports.proofs.configs.asked_with_silences.Goals as goal

pub returns-clause-asked : goal.returns-clause-asked
returns-clause-asked c =
    let config = config_view c.args.config.now in
    let silences = silences_view c.args.silences.now in
    let lists = c.args.impossible.now in
    let routes = placed_in_routes config in
    let active = placed_in_active silences in
    rw (
      c.into_labels.ensures,
      c.in_ok-visit_lists.ensures.visit,
      c.in_ok-add_silences.ensures,
      c.in_ok-visit_routes.ensures.visit,
      c.empty-gathering.ensures,
      ← fold-append with_asked (fold with_asked [] routes) active (placed_in_lists lists),
      ← fold-append with_asked [] routes (active ++ placed_in_lists lists),
    ) (labels_asked_of (Silenced config silences) lists)
