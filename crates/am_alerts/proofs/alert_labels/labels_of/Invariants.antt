use Rattle.std.proofs.Common.{◌≡◌, ◌++◌, All, map, drop}
use Rattle.std.specs.List.{flat_map, enumerate_from}
use Rattle.am_alerts.specs.AlertLabels.{label_view, labels_of, all_labels}
use Rattle.am_alerts.specs.AlertLabels.{HasNamePlace, HasPlace}
use Rattle.am_alerts.proofs.alert_labels.labels_of.Given as goal

-- the labels so far, and then those of the alerts that are left, are all labels
abbrev pub invariant-loop-alert : goal.invariant-loop-alert
invariant-loop-alert l = record {
  labels : map label_view l.labels.items
      ++ flat_map labels_of (enumerate_from l.alert (drop l.alert l.alerts))
      ≡ all_labels l.alerts;
  names : All (HasNamePlace l.names.keys) l.labels.items;
  values : All (HasPlace l.values.keys) l.labels.items;
}
