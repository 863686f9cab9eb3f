use Rattle.std.proofs.Common.{◌≡◌, map, take}
use Rattle.am_coverage.proofs.SeenEnds.{found_by}
use Rattle.am_coverage.proofs.route_coverage.routes_covered.Given as goal

-- each route so far is found by the first ends
abbrev pub invariant-loop-end : goal.invariant-loop-end
invariant-loop-end l =
    l.found.items ≡ map (found_by l.end-items) (take l.end-index l.end-items)
