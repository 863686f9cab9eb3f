use Rattle.std.proofs.Common.{◌≡◌, ℕ, List, take}
use Rattle.std.specs.List.{list_any}
use Rattle.std.specs.Prelude.{IsTrue}
use Rattle.am_universe.specs.Choice.{admits}
use Rattle.am_universe.specs.Universe.{sizes}
use Rattle.am_judged_lists.specs.declared.certainty.Certainty.{Certainty}
use Rattle.am_judged_lists.specs.Certainty.{passes}
use Rattle.am_judged_lists.specs.Cube.{verdict_at}
use Rattle.am_plans.proofs.SilenceSteps.{hides}
use Rattle.am_plans.proofs.world_lists.lists_of_silences.Given as goal

-- some list so far passes exactly if a silence so far hides
abbrev pub invariant-loop-i : goal.invariant-loop-i
invariant-loop-i l =
    (prefix : List ℕ) (m : Certainty) → IsTrue (admits (sizes l.universe) prefix)
    → list_any (λ list. passes m (verdict_at list prefix)) l.lists.items
    ≡ list_any (hides l.universe l.world prefix m) (take l.i l.world.silences)
