use Rattle.std.proofs.Common.{◌≡◌, ℕ, List, map, take}
use Rattle.std.specs.Prelude.{IsTrue}
use Rattle.am_universe.specs.Universe.{sizes}
use Rattle.am_universe.specs.Choice.{admits}
use Rattle.am_judged_lists.specs.Cube.{verdict_at}
use Rattle.am_judged_lists.specs.Verdicts.{verdict_of_list}
use Rattle.am_judged_lists.proofs.impossible.impossible_cubes.Given as goal

-- the cubes so far are those of the lists so far
abbrev pub invariant-loop-list : goal.invariant-loop-list
invariant-loop-list l =
    (prefix : List ℕ) → IsTrue (admits (sizes l.universe) prefix)
    → map (λ cube. verdict_at cube prefix) l.cubes.items
    ≡ map (λ ms. verdict_of_list l.universe ms prefix) (take l.list-index l.lists)
