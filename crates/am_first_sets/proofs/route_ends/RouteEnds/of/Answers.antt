use Rattle.std.proofs.Common.{List, ap, subst, sym, ◌∙◌}
use Rattle.am_universe.specs.Universe.{Label}
use Rattle.am_labels.specs.Space.{Space}
use Rattle.am_config.specs.ConfigFile.{RouteTree}
use Rattle.am_config.specs.ConfigView.{config_view}
use Rattle.am_first_sets.specs.RouteCubes.{AreCubesOf, KnowsRoutes}
use Rattle.am_first_sets.proofs.route_ends.RouteEnds.of.Goals as goal

pub invariant_of-result : goal.invariant_of-result
invariant_of-result c =
    let routes = c.in_ok-routes.routes in
    record {
      knows_routes = subst (λ (v : List Label). KnowsRoutes v (config_view c.args.config.now) routes)
          (c.universe.ensures.labels ∙ ap (λ (s : Space). s.labels) (sym c.in_ok-possible.ensures.space))
          (λ choice whole.
          subst (λ (t : RouteTree). AreCubesOf c.universe.result.now choice t routes)
          c.root.ensures.root (c.in_ok-routes.ensures.cubes choice whole.0));
    }
