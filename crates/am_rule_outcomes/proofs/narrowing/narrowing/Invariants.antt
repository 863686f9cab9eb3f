use Rattle.std.proofs.Common.{◌≡◌, ◌++◌, List, drop, length, option_map}
use Rattle.am_universe.specs.Universe.{Label}
use Rattle.am_complete.specs.AskedLabel.{AskedLabel}
use Rattle.am_alerting_rules.specs.RuleView.{pairs_view}
use Rattle.am_rule_outcomes.specs.Narrowing.{narrowing}
use Rattle.am_rule_outcomes.specs.NarrowingView.{AreLabelTexts}
use Rattle.am_rule_outcomes.proofs.narrowing.narrowing.Given as goal

-- the labels so far are narrowed, and their texts stay the same
abbrev pub invariant-loop-i : goal.invariant-loop-i
invariant-loop-i l = record {
  count : length l.labels.items ≡ length l.fn.labels.items;
  texts : (asked : List AskedLabel) (u : List Label) → AreLabelTexts asked u l.fn.labels.items
      → AreLabelTexts asked u l.labels.items;
  kept : (asked : List AskedLabel) (u : List Label) → AreLabelTexts asked u l.fn.labels.items
      → narrowing asked (pairs_view l.fixed) u
      ≡ option_map (λ rest. l.kept.items ++ rest) (narrowing asked (pairs_view l.fixed) (drop l.i u));
}
