use Rattle.std.proofs.Common.{◌≡◌, ◌++◌, map}
use Rattle.am_universe.specs.LabelSetView.{entry_texts}
use Rattle.am_alerts.proofs.alert_lines.labels_of.Given as goal

-- the labels so far, and then those that are left, are all labels
abbrev pub invariant-loop-name : goal.invariant-loop-name
invariant-loop-name l =
    map (λ p. (p.0.now, p.1.now)) l.labels.items ++ entry_texts l.name-iterator
    ≡ entry_texts l.initial.name-iterator
