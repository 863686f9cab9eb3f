use Rattle.am_alerts.specs.AlertLabels.{HavePlace}
use Rattle.am_alerts.proofs.alert_labels.row_end.Given as goal

-- the labels so far have the place
abbrev pub invariant-loop-k : goal.invariant-loop-k
invariant-loop-k l = HavePlace l.labels l.start l.k l.place
