use Rattle.std.proofs.Common.{◌≡◌, ◌++◌, All, map}
use Rattle.am_universe.specs.LabelSetView.{entry_texts}
use Rattle.am_alerts.specs.AlertLabels.{label_view, HasNamePlace, HasPlace}
use Rattle.am_alerts.proofs.alert_labels.add_labels.Given as goal

-- the labels so far, and then those that are left, are all labels
abbrev pub invariant-loop-name : goal.invariant-loop-name
invariant-loop-name l = record {
  labels : map label_view l.labels.items ++ map (λ e. (l.alert, e)) (entry_texts l.name-iterator)
      ≡ map label_view l.initial.labels.items
      ++ map (λ e. (l.alert, e)) (entry_texts l.initial.name-iterator);
  names : All (HasNamePlace l.names.keys) l.labels.items;
  values : All (HasPlace l.values.keys) l.labels.items;
}
