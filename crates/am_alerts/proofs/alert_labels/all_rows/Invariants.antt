use Rattle.std.proofs.Common.{◌≡◌, All, map, take}
use Rattle.am_alerts.specs.AlertLabels.{AreNameRows}
use Rattle.am_alerts.proofs.alert_labels.all_rows.Given as goal

-- the rows of the names so far
abbrev pub invariant-loop-place : goal.invariant-loop-place
invariant-loop-place l = record {
  names : map (λ known. known.name.now) l.rows.items ≡ map (λ name. name.now) (take l.place l.names);
  rows : All (AreNameRows l.labels) l.rows.items;
}
