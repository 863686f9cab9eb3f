use Rattle.std.proofs.Common.{◌≡◌, ℕ, ◌<◌, length, ◌&&◌, not}
use Rattle.am_alerts.specs.AlertLabels.{flag}
use Rattle.am_alerts.proofs.alert_lists.without.Given as goal

abbrev pub invariant-loop-i : goal.invariant-loop-i
invariant-loop-i l = record {
  count : length l.rest.items ≡ l.i;
  rest : (k : ℕ) → k < l.i → flag l.rest.items k ≡ (flag l.among k && not (flag l.others k));
}
