use Rattle.std.proofs.Common.{take}
use Rattle.std.specs.List.{AllZip}
use Rattle.am_outcomes.specs.Configurations.{configurations_of}
use Rattle.am_rule_outcomes.specs.NarrowingView.{AreShared, narrowed_each}
use Rattle.am_rule_outcomes.proofs.SharedOutcomes.{IsPosition, of_narrowings}
use Rattle.am_rule_outcomes.proofs.rule_outcomes.outcomes_of_each.Given as goal

-- the outcomes of the narrowings so far
abbrev pub invariant-loop-rule : goal.invariant-loop-rule
invariant-loop-rule l = record {
  shared : AreShared l.space (configurations_of l.configs) l.shared;
  positions : AllZip (IsPosition (narrowed_each l.space.labels l.shared.each.items))
      (of_narrowings l.space (configurations_of l.configs) (take l.rule l.narrowings))
      l.of_rules.items;
}
