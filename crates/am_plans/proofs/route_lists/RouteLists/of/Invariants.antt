use Rattle.std.proofs.Common.{◌≡◌, ℕ, List, Some, length, slice_get}
use Rattle.am_config.specs.ConfigFile.{Configuration}
use Rattle.am_config.specs.RoutePaths.{all_routes}
use Rattle.am_plans.specs.declared.route_lists.RouteWay.{RouteWay}
use Rattle.am_plans.specs.RouteGroups.{AreRoutesOf}
use Rattle.am_plans.specs.RoutesByWays.{IsWayTo}
use Rattle.am_plans.proofs.route_lists.RouteLists.of.Given as goal

-- the ways to the routes so far
abbrev pub invariant-loop-path : goal.invariant-loop-path
invariant-loop-path l = record {
  count : length l.ways.items ≡ l.path-index;
  each : (c : Configuration) (i : ℕ) (way : RouteWay) (path : List ℕ) → AreRoutesOf c l.routes
      → slice_get l.ways.items i ≡ Some way → slice_get l.routes.paths.items i ≡ Some path
      → IsWayTo (all_routes c) path way;
}
