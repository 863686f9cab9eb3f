use Rattle.std.proofs.Common.{◌≡◌, ◌+◌, ◌*◌, ◌++◌, map, drop}
use Rattle.am_config.specs.ConfigFile.{routes_of, route_count, routes_count}
use Rattle.am_config.specs.RouteView.{route_view}
use Rattle.am_eval.proofs.ChildEnds.{ends_from}
use Rattle.am_eval.proofs.routing.+ends.Given as goal

-- the ends so far, and those of the children that are left, are all ends
abbrev pub invariant-add_ends_of_children-loop-position :
    goal.invariant-add_ends_of_children-loop-position
invariant-add_ends_of_children-loop-position l =
    l.found.items ++ map (λ below. l.path ++ below)
    (ends_from l.set l.position (map route_view (drop l.position l.children)))
    ≡ l.fn.found.items ++ map (λ below. l.path ++ below)
    (ends_from l.set 0 (map route_view l.children))

abbrev pub decreases-add_ends : goal.decreases-add_ends
decreases-add_ends l = 2 * route_count (route_view l.route.now)

abbrev pub decreases-add_ends_of_children : goal.decreases-add_ends_of_children
decreases-add_ends_of_children l =
    2 * routes_count (routes_of (map route_view l.children.now)) + 1
