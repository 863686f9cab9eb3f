use Rattle.std.proofs.Common.{◌≡◌, ◌++◌, map, take}
use Rattle.std.specs.List.{flat_map}
use Rattle.am_route_alerts.specs.MatcherCubes.{cubes_at, matcher_cube}
use Rattle.am_route_alerts.proofs.matcher_cubes.cubes_about.Given as goal

-- the matchers of the routes of the literals so far
abbrev pub invariant-loop-literal : goal.invariant-loop-literal
invariant-loop-literal l =
    map matcher_cube l.found.items
    ≡ flat_map (λ k. cubes_at l.cubes k.tag) (take l.literal-index l.literals)

-- and those so far of one route more
abbrev pub invariant-loop-cube : goal.invariant-loop-cube
invariant-loop-cube l =
    map matcher_cube l.found.items
    ≡ map matcher_cube l.initial.found.items ++ take l.cube-index l.cube-items
