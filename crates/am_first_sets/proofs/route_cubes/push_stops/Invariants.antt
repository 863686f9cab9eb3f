use Rattle.std.proofs.Common.{◌≡◌, ℕ, List, ◌&&◌, take}
use Rattle.am_first_sets.specs.Solving.{avoids}
use Rattle.am_first_sets.specs.RouteCubes.{none_stops}
use Rattle.am_first_sets.proofs.route_cubes.push_stops.Given as goal

-- the routes so far are added
abbrev pub invariant-loop-route : goal.invariant-loop-route
invariant-loop-route l =
    (choice : List ℕ) → avoids l.cubes.items choice
    ≡ (avoids l.fn.cubes.items choice
    && none_stops l.kin choice (take l.route-index l.routes))
