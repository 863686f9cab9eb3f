use Rattle.std.proofs.Common.{ℕ, List, ◌+◌, ◌*◌, map, take}
use Rattle.std.specs.Prelude.{IsTrue}
use Rattle.am_universe.specs.Universe.{sizes}
use Rattle.am_universe.specs.Choice.{admits}
use Rattle.am_config.specs.ConfigFile.{routes_of, route_count, routes_count}
use Rattle.am_config.specs.RouteView.{route_view}
use Rattle.am_first_sets.specs.RouteCubes.{AreCubesOfEach}
use Rattle.am_first_sets.proofs.route_cubes.+cubes.Given as goal

-- the cubes so far are those of the routes so far
abbrev pub invariant-cubes_of_routes-loop-route : goal.invariant-cubes_of_routes-loop-route
invariant-cubes_of_routes-loop-route l =
    (prefix : List ℕ) → IsTrue (admits (sizes l.universe) prefix)
    → AreCubesOfEach l.universe prefix (routes_of (map route_view (take l.route-index l.routes)))
    l.cubes.items

abbrev pub decreases-RouteCubes::of : goal.decreases-RouteCubes::of
decreases-RouteCubes::of l = 2 * route_count (route_view l.route.now)

abbrev pub decreases-cubes_of_routes : goal.decreases-cubes_of_routes
decreases-cubes_of_routes l = 2 * routes_count (routes_of (map route_view l.routes.now)) + 1
