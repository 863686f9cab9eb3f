use Rattle.std.proofs.Common.{take}
use Rattle.std.specs.Prelude.{IfSome}
use Rattle.am_labels.specs.Matcher.{all_hold}
use Rattle.am_alerts.specs.AlertLabels.{Keeps}
use Rattle.am_alerts.specs.Judge.{IsSound, IsTestOf}
use Rattle.am_alerts.proofs.alert_labels.AlertLabels.matched.Given as goal

-- those that are left match the matchers so far
abbrev pub invariant-loop-i : goal.invariant-loop-i
invariant-loop-i l = record {
  kept : Keeps l.self (λ s. all_hold s (take l.i l.matchers)) l.among l.left.items;
  last : IfSome l.last (λ known. IsSound l.sorted.values.keys known.1 × IsTestOf known.1.test known.0.now);
}
