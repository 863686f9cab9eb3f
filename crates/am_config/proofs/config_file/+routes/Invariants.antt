use Rattle.std.proofs.Common.{◌≡◌, [], map, drop, ◌+◌, ◌*◌, ◌≤◌}
use Rattle.serde_json.specs.View.{view}
use Rattle.am_config.specs.declared.limits.TheConstants.{MAX_ROUTES}
use Rattle.am_json.specs.Reading.{read_items}
use Rattle.am_config.specs.RouteView.{route_view, names_of}
use Rattle.am_config.specs.ConfigFile.{routes_count, routes_of}
use Rattle.am_config.specs.ConfigForm.{next_child_form}
use Rattle.am_json.proofs.Readings.{Leads}
use Rattle.am_config.proofs.config_file.+routes.Given as goal

-- reading the items that are left, after the children so far, gives what reading all items gives;
-- and the children so far are counted
abbrev pub invariant-read_routes-loop-item : goal.invariant-read_routes-loop-item
invariant-read_routes-loop-item l = record {
  leads : Leads (read_items (next_child_form (names_of l.names) l.levels l.parent l.before)
      (map route_view l.routes.items) (map view (drop l.item-index l.items)))
      (read_items (next_child_form (names_of l.names) l.levels l.parent l.before) []
      (map view l.items));
  counted : l.after ≡ l.before + routes_count (routes_of (map route_view l.routes.items));
  few : l.after ≤ MAX_ROUTES;
}

abbrev pub decreases-read_route : goal.decreases-read_route
decreases-read_route l = 2 * l.levels

abbrev pub decreases-read_routes : goal.decreases-read_routes
decreases-read_routes l = 2 * l.levels + 1
