use Rattle.std.proofs.Common.{◌≡◌, drop}
use Rattle.am_config.specs.RouteView.{route_view}
use Rattle.am_config.specs.Path.{route_at}
use Rattle.am_config.proofs.config.Config.at.Given as goal

-- the rest of the path leads from this route to where the whole path leads from the top
abbrev pub invariant-loop-i : goal.invariant-loop-i
invariant-loop-i l =
    route_at (route_view l.route) (drop l.i l.path) ≡ route_at (route_view l.self.root) l.path
