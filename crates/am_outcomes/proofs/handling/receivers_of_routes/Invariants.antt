use Rattle.std.proofs.Common.{◌≡◌, map, take}
use Rattle.am_config.specs.ConfigFile.{receiver_of}
use Rattle.am_config.specs.RouteView.{route_view}
use Rattle.am_outcomes.proofs.handling.receivers_of_routes.Given as goal

-- the receivers so far
abbrev pub invariant-loop-route : goal.invariant-loop-route
invariant-loop-route l =
    l.found.items ≡ map (λ r. receiver_of (route_view r.now)) (take l.route-index l.routes)
