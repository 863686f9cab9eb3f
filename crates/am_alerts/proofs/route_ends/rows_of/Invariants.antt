use Rattle.std.proofs.Common.{◌≡◌, take}
use Rattle.am_alerts.specs.RouteEnds.{ends_of}
use Rattle.am_alerts.proofs.route_ends.rows_of.Given as goal

abbrev pub invariant-loop-path : goal.invariant-loop-path
invariant-loop-path l = ends_of l.rows.items 0 ≡ take l.path-index l.paths
