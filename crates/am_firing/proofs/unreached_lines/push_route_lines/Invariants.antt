use Rattle.std.proofs.Common.{◌≡◌, ◌++◌, map, take}
use Rattle.std.specs.List.{filter}
use Rattle.am_config.specs.ConfigView.{config_view}
use Rattle.am_report_texts.specs.LineView.{line_view}
use Rattle.am_lint.specs.FoundView.{said_of}
use Rattle.am_firing.specs.Reach.{leads_to, paths_of}
use Rattle.am_firing.specs.Unreached.{is_unreached}
use Rattle.am_firing.specs.FiringLines.{route_line}
use Rattle.am_firing.proofs.unreached_lines.push_route_lines.Given as goal

-- the lines of the routes so far
abbrev pub invariant-loop-route : goal.invariant-loop-route
invariant-loop-route l =
    map line_view l.lines.items
    ≡ map line_view l.initial.lines.items
    ++ map (route_line l.whose (config_view l.config) (map said_of l.routes))
    (filter (is_unreached (leads_to (paths_of l.ends))) (map said_of (take l.route-index l.routes)))
