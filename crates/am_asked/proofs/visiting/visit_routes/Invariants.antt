use Rattle.std.proofs.Common.{drop}
use Rattle.std.specs.List.{flat_map}
use Rattle.am_config.specs.ConfigView.{config_view}
use Rattle.am_config.specs.RoutePaths.{all_routes}
use Rattle.am_asked.specs.Placed.{placed_by_route, placed_in_routes}
use Rattle.am_asked.proofs.PlacedSteps.{IsOnTheWay}
use Rattle.am_asked.proofs.visiting.visit_routes.Given as goal

-- the visitor so far, with the matchers of the routes that are left, gives the visitor after all
-- matchers
abbrev pub invariant-loop-i : goal.invariant-loop-i
invariant-loop-i g l =
    IsOnTheWay g.V.Visitor.after l.fn.visitor (placed_in_routes (config_view l.config)) l.visitor
    (flat_map placed_by_route (drop l.i (all_routes (config_view l.config))))
