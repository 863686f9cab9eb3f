use Rattle.std.proofs.Common.{◌≡◌, ℕ, ◌&&◌, not, take}
use Rattle.am_alerts.specs.AlertLabels.{flag, is_at}
use Rattle.am_alerts.proofs.alert_labels.drop_all.Given as goal

-- the alerts at the positions so far are dropped
abbrev pub invariant-loop-position : goal.invariant-loop-position
invariant-loop-position l =
    (i : ℕ) → flag l.kept i
    ≡ (flag l.initial.kept i && not (is_at (take l.position-index l.positions) i))
