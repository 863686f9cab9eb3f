use Rattle.std.proofs.Common.{take}
use Rattle.std.specs.List.{flat_map}
use Rattle.am_universe.specs.Sink.{Wrote}
use Rattle.am_coverage.specs.WrittenCoverage.{route_line}
use Rattle.am_coverage.proofs.report.write_routes.Given as goal

-- the lines of the routes so far are written
abbrev pub invariant-loop-route : goal.invariant-loop-route
invariant-loop-route g l =
    Wrote g.W.Sink.taken g.W.Sink.failures l.fn.out l.out
    (flat_map (route_line l.universe) (take l.route-index l.routes))
