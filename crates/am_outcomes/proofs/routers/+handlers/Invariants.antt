use Rattle.std.proofs.Common.{◌≡◌, ◌+◌, ◌*◌, List, map, drop}
use Rattle.am_universe.specs.Universe.{Label, sizes}
use Rattle.am_universe.specs.Choice.{IsWhole}
use Rattle.am_universe.specs.LabelSet.{label_set_of}
use Rattle.am_config.specs.ConfigFile.{routes_of, route_count, routes_count}
use Rattle.am_config.specs.RouteView.{route_view}
use Rattle.am_first_sets.specs.RouteCubes.{AreCubesOfEach}
use Rattle.am_outcomes.specs.OutcomesView.{routes_view}
use Rattle.am_outcomes.proofs.RouterSteps.{with_left}
use Rattle.am_outcomes.proofs.routers.+handlers.Given as goal

-- the routes so far, and those of the children that are left, are all routes
abbrev pub invariant-add_handlers_among-loop-i : goal.invariant-add_handlers_among-loop-i
invariant-add_handlers_among-loop-i l =
    (u : List Label) → IsWhole (sizes u) l.choice
    → AreCubesOfEach u l.choice (routes_of (map route_view l.routes)) l.cubes
    → with_left (label_set_of u l.choice) (routes_view l.found.items)
    (map route_view (drop l.i l.routes))
    ≡ with_left (label_set_of u l.choice) (routes_view l.fn.found.items) (map route_view l.routes)

abbrev pub decreases-add_handlers : goal.decreases-add_handlers
decreases-add_handlers l = 2 * route_count (route_view l.route.now)

abbrev pub decreases-add_handlers_among : goal.decreases-add_handlers_among
decreases-add_handlers_among l = 2 * routes_count (routes_of (map route_view l.routes.now)) + 1
