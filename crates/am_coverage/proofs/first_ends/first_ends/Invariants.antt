use Rattle.std.proofs.Common.{◌≡◌, map, take}
use Rattle.am_config.specs.ConfigView.{config_view}
use Rattle.am_config.specs.RoutePaths.{all_routes}
use Rattle.am_coverage.specs.FirstEnds.{first_end_of}
use Rattle.am_coverage.proofs.first_ends.first_ends.Given as goal

-- the first end of each route so far is found
abbrev pub invariant-loop-i : goal.invariant-loop-i
invariant-loop-i l =
    l.found.items
    ≡ map (first_end_of l.space (config_view l.config)) (take l.i (all_routes (config_view l.config)))
