use Rattle.std.proofs.Common.{◌≡◌, ℕ, List, take}
use Rattle.std.specs.List.{list_any}
use Rattle.std.specs.Prelude.{IsTrue}
use Rattle.am_universe.specs.Choice.{admits}
use Rattle.am_universe.specs.Universe.{sizes}
use Rattle.am_judged_lists.specs.declared.certainty.Certainty.{Certainty}
use Rattle.am_plans.specs.PairsByLists.{pair_by, way_of_pair, AreSources}
use Rattle.am_plans.proofs.pair_lists.lists_of_pairs.Given as goal

-- the lists so far say what the conditions of the pairs so far say
abbrev pub invariant-loop-pair : goal.invariant-loop-pair
invariant-loop-pair l =
    (prefix : List ℕ) (m : Certainty) (sources : List _)
    → IsTrue (admits (sizes l.universe) prefix)
    → AreSources l.universe prefix sources l.world.config.rules
    → list_any (pair_by prefix m sources) l.lists.items
    ≡ list_any (way_of_pair l.universe l.world prefix m) (take l.pair-index l.pair-items)
