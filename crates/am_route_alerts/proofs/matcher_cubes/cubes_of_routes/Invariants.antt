use Rattle.std.proofs.Common.{take}
use Rattle.std.specs.List.{AllZip}
use Rattle.am_config.specs.ConfigFile.{matchers_of}
use Rattle.am_config.specs.ConfigView.{config_view}
use Rattle.am_config.specs.RoutePaths.{all_routes}
use Rattle.am_route_alerts.specs.MatcherCubes.{AreCubesOf}
use Rattle.am_route_alerts.proofs.matcher_cubes.cubes_of_routes.Given as goal

-- the cubes so far are those of the routes so far
abbrev pub invariant-loop-route : goal.invariant-loop-route
invariant-loop-route l =
    AllZip (λ route found. AreCubesOf l.universe (matchers_of route.1) found.items)
    (take l.route-index (all_routes (config_view l.config))) l.cubes.items
