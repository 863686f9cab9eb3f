use Rattle.std.proofs.Common.{◌≡◌, ℕ, List, ◌&&◌, drop}
use Rattle.am_judged_lists.specs.Cube.{matches}
use Rattle.am_first_sets.specs.declared.route_cubes.RouteCubes.TheViews.{out-RouteCubes}
use Rattle.am_first_sets.specs.RouteCubes.{ends_by}
use Rattle.am_first_sets.proofs.CubeEnds.{on_way}
use Rattle.am_first_sets.proofs.route_cubes.RouteCubes.way_to_end.Given as goal

-- the way so far leads to the route, and what is left of the path leads on
abbrev pub invariant-loop-i : goal.invariant-loop-i
invariant-loop-i l =
    (choice : List ℕ) → on_way choice l.wanted.items l.unwanted.items l.route (drop l.i l.path)
    ≡ (matches (out-RouteCubes l.self).cube choice && ends_by choice l.self l.path)
