use Rattle.std.proofs.Common.{take}
use Rattle.am_rule_outcomes.specs.NarrowingView.{AreLabelTexts}
use Rattle.am_rule_outcomes.proofs.narrowing.label_texts.Given as goal

-- the texts of the labels so far
abbrev pub invariant-loop-i : goal.invariant-loop-i
invariant-loop-i l = AreLabelTexts l.asked (take l.i l.universe) l.labels.items
