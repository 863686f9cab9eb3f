use Rattle.std.proofs.Common.{◌≡◌, false, take}
use Rattle.std.specs.List.{list_any}
use Rattle.am_alerts.specs.AlertLabels.{flag}
use Rattle.am_alerts.proofs.alert_labels.has_any.Given as goal

-- none of the alerts at the positions so far
abbrev pub invariant-loop-position : goal.invariant-loop-position
invariant-loop-position l = list_any (flag l.among) (take l.position-index l.positions) ≡ false
