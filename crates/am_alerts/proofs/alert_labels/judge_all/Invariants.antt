use Rattle.std.proofs.Common.{◌≡◌, ◌≤◌, ℕ, ◌&&◌, drop}
use Rattle.std.specs.Prelude.{slice_range}
use Rattle.am_alerts.specs.Judge.{IsSound}
use Rattle.am_alerts.specs.AlertLabels.{flag, all_pass, Tile}
use Rattle.am_alerts.proofs.alert_labels.judge_all.Given as goal

-- the rows so far are judged
abbrev pub invariant-loop-row : goal.invariant-loop-row
invariant-loop-row l = record {
  from : l.known.range.0 ≤ l.start;
  within : l.start ≤ l.known.range.1;
  left : Tile l.sorted.labels.items l.start l.known.range.1 (drop l.row-index l.known.rows.items);
  test : l.judge.test ≡ l.initial.judge.test;
  sound : IsSound l.values l.judge;
  judged : (i : ℕ) → flag l.kept i ≡ (flag l.initial.kept i && all_pass l.initial.judge.test
      (slice_range l.sorted.labels.items l.known.range.0 l.start) i);
}
