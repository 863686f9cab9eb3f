use Rattle.std.proofs.Common.{◌≡◌, List, drop}
use Rattle.std.specs.List.{list_all}
use Rattle.am_universe.specs.Universe.{Label}
use Rattle.am_alerting_rules.specs.RuleView.{pairs_view}
use Rattle.am_rule_outcomes.specs.Narrowing.{absence_stands}
use Rattle.am_rule_outcomes.specs.NarrowingView.{AreLabelTexts}
use Rattle.am_rule_outcomes.proofs.narrowing.absence_stands.Given as goal

-- absence stands for the texts so far
abbrev pub invariant-loop-label : goal.invariant-loop-label
invariant-loop-label l = (u : List Label) → AreLabelTexts l.asked u l.labels
    → list_all (absence_stands l.asked u) (pairs_view l.fixed)
    ≡ list_all (absence_stands l.asked u) (pairs_view (drop l.label-index l.fixed))
