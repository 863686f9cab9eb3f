use Rattle.std.proofs.Common.{◌≤◌, ◌-◌}
use Rattle.am_alerts.specs.AlertLabels.{Tile}
use Rattle.am_alerts.proofs.alert_labels.rows_in.Given as goal

-- the rows so far tile the labels up to the next row
abbrev pub invariant-loop-start : goal.invariant-loop-start
invariant-loop-start l = record {
  within : l.start ≤ l.range.1;
  rows : Tile l.labels l.range.0 l.start l.rows.items;
}

abbrev pub decreases-loop-start : goal.decreases-loop-start
decreases-loop-start l = l.range.1 - l.start
