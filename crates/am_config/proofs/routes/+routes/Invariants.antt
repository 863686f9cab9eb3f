use Rattle.std.proofs.Common.{◌≡◌, ◌+◌, ◌*◌, ◌++◌, map, drop}
use Rattle.am_config.specs.ConfigFile.{routes_of, route_count, routes_count}
use Rattle.am_config.specs.RouteView.{route_view}
use Rattle.am_config.specs.RoutePaths.{routes_from}
use Rattle.am_config.proofs.routes.+routes.Given as goal

-- the routes so far, and those of the children that are left, are all routes
abbrev pub invariant-add_children-loop-position : goal.invariant-add_children-loop-position
invariant-add_children-loop-position l = record {
  paths : l.found.paths.items ++ map (λ r. r.0)
      (routes_from l.path l.position (routes_of (map route_view (drop l.position l.children))))
      ≡ l.fn.found.paths.items ++ map (λ r. r.0)
      (routes_from l.path 0 (routes_of (map route_view l.children)));
  routes : map (λ route. route_view route.now) l.found.routes.items ++ map (λ r. r.1)
      (routes_from l.path l.position (routes_of (map route_view (drop l.position l.children))))
      ≡ map (λ route. route_view route.now) l.fn.found.routes.items ++ map (λ r. r.1)
      (routes_from l.path 0 (routes_of (map route_view l.children)));
}

abbrev pub decreases-add_route : goal.decreases-add_route
decreases-add_route l = 2 * route_count (route_view l.route.now)

abbrev pub decreases-add_children : goal.decreases-add_children
decreases-add_children l = 2 * routes_count (routes_of (map route_view l.children.now)) + 1
