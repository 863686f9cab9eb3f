use Rattle.std.proofs.Common.{take, map}
use Rattle.std.specs.Prelude.{option_copied}
use Rattle.std.specs.List.{AllZip, filter}
use Rattle.am_config.specs.ConfigFile.{receiver_of}
use Rattle.am_config.specs.ConfigView.{config_view}
use Rattle.am_config.specs.RoutePaths.{all_routes}
use Rattle.am_eval.specs.Reaching.{IsSetOf}
use Rattle.am_route_alerts.specs.FoundView.{route_alerts_view}
use Rattle.am_route_alerts.specs.RouteAlerts.{IsRouteAlerts, is_asked}
use Rattle.am_route_alerts.proofs.found.alerts_of_routes.Given as goal

-- the routes so far, if their receivers are asked about
abbrev pub invariant-loop-route : goal.invariant-loop-route
invariant-loop-route l =
    AllZip (IsRouteAlerts (IsSetOf l.space) (config_view l.config))
    (filter (λ route. is_asked (option_copied l.receivers) (receiver_of route.1))
    (take l.route-index (all_routes (config_view l.config))))
    (map route_alerts_view l.found.items)
