use Rattle.std.proofs.Common.{◌≡◌, ◌++◌, length, map}
use Rattle.std.specs.Vec.Iter.{into_iter_items, into_iter_len}
use Rattle.am_config.specs.ConfigView.{config_view}
use Rattle.am_report_texts.specs.LineView.{line_view}
use Rattle.am_route_alerts.specs.RouteLines.{route_line}
use Rattle.am_route_alerts.specs.FoundView.{route_alerts_view}
use Rattle.am_route_alerts.proofs.lines.routes_report.Given as goal

-- the lines so far are those of the routes so far
abbrev pub invariant-loop-route : goal.invariant-loop-route
invariant-loop-route l = record {
  left : l.yielded ++ into_iter_items l.route-iterator ≡ l.fn.found.items;
  len : into_iter_len l.route-iterator ≡ length (into_iter_items l.route-iterator);
  lines : map line_view l.lines.items
      ≡ map (route_line (config_view l.config)) (map route_alerts_view l.yielded);
}
