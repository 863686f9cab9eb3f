-- What contracts read from what was found of a route.
use Rattle.std.specs.Prelude.{map, option_map}
use Rattle.am_route_alerts.specs.declared.end_matchers.EndMatchers.{EndMatchers}
use Rattle.am_route_alerts.specs.declared.found.RouteAlerts.{RouteAlerts}
use Rattle.am_route_alerts.specs.EndMatchers as ends
use Rattle.am_route_alerts.specs.RouteAlerts as alerts

-- The matchers and the lists, which borrow from a configuration.
abbrev pub ends_view : EndMatchers → ends.EndMatchers
ends_view e = record {
  matchers = map (λ m. m.now) e.matchers.items;
  unless = map (λ list. map (λ m. m.now) list.items) e.unless.items;
}

abbrev pub route_alerts_view : RouteAlerts → alerts.RouteAlerts
route_alerts_view route = record {
  path = route.path;
  receiver = route.receiver;
  ends = option_map ends_view route.ends;
}
