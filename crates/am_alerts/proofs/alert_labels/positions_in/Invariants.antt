use Rattle.std.proofs.Common.{◌≡◌, map, take}
use Rattle.am_alerts.proofs.alert_labels.positions_in.Given as goal

abbrev pub invariant-loop-label : goal.invariant-loop-label
invariant-loop-label l =
    map (λ a. a.alert) (take l.label-index l.labels) ≡ l.positions.items
