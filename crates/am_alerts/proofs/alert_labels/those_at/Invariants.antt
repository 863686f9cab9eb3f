use Rattle.std.proofs.Common.{◌≡◌, ℕ, ◌&&◌, length, take}
use Rattle.am_alerts.specs.AlertLabels.{flag, is_at}
use Rattle.am_alerts.proofs.alert_labels.those_at.Given as goal

-- the alerts at the positions so far are taken
abbrev pub invariant-loop-position : goal.invariant-loop-position
invariant-loop-position l = record {
  count : length l.those.items ≡ length l.among;
  those : (i : ℕ) → flag l.those.items i
      ≡ (flag l.among i && is_at (take l.position-index l.positions) i);
}
