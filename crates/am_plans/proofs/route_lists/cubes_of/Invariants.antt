use Rattle.std.proofs.Common.{◌≡◌, ℕ, List, map, take}
use Rattle.std.specs.Prelude.{IsTrue}
use Rattle.am_universe.specs.Choice.{admits}
use Rattle.am_universe.specs.Universe.{sizes}
use Rattle.am_config.specs.ConfigFile.{matchers_of}
use Rattle.am_config.specs.RouteView.{route_view}
use Rattle.am_judged_lists.specs.Cube.{verdict_at}
use Rattle.am_judged_lists.specs.Verdicts.{verdict_of_list}
use Rattle.am_plans.proofs.route_lists.cubes_of.Given as goal

-- the cubes so far are those of the routes so far
abbrev pub invariant-loop-route : goal.invariant-loop-route
invariant-loop-route l =
    (prefix : List ℕ) → IsTrue (admits (sizes l.universe) prefix)
    → map (λ cube. verdict_at cube prefix) l.cubes.items
    ≡ map (λ route. verdict_of_list l.universe (matchers_of (route_view route.now)) prefix)
    (take l.route-index l.routes)
