use Rattle.std.proofs.Common.{◌≡◌, map, take}
use Rattle.am_rule_outcomes.specs.Narrowing.{rule_narrowing}
use Rattle.am_rule_outcomes.specs.NarrowingView.{AreLabelTexts, narrowing_view}
use Rattle.am_rule_outcomes.proofs.narrowing.narrowings.Given as goal

-- the narrowings of the rules so far
abbrev pub invariant-loop-rule : goal.invariant-loop-rule
invariant-loop-rule l = record {
  texts : AreLabelTexts l.asked l.universe l.labels.items;
  narrowings : map narrowing_view l.found.items
      ≡ map (rule_narrowing l.alphabet l.asked l.universe) (take l.rule-index l.rules);
}
