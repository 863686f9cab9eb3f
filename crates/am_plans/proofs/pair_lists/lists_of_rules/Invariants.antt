use Rattle.std.proofs.Common.{ℕ, List, take}
use Rattle.std.specs.Prelude.{IsTrue}
use Rattle.am_universe.specs.Choice.{admits}
use Rattle.am_universe.specs.Universe.{sizes}
use Rattle.am_plans.specs.PairsByLists.{AreSources, AreTargets}
use Rattle.am_plans.proofs.pair_lists.lists_of_rules.Given as goal

-- the lists and the rows so far are those of the rules so far
abbrev pub invariant-loop-rule : goal.invariant-loop-rule
invariant-loop-rule l = record {
  sources : (prefix : List ℕ) → IsTrue (admits (sizes l.universe) prefix)
      → AreSources l.universe prefix l.sources.items (take l.rule-index l.rules);
  targets : AreTargets l.universe l.targets.items (take l.rule-index l.rules);
}
