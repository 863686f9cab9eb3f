use Rattle.std.proofs.Common.{◌≡◌, ◌++◌, ℕ, Some, drop}
use Rattle.std.specs.Prelude.{slice_get}
use Rattle.am_universe.specs.LabelSet.{LabelMap}
use Rattle.am_eval.specs.Silencing.{hides, positions_where, silencers}
use Rattle.am_alerts.specs.AlertLists.{list_at}
use Rattle.am_alerts.proofs.alert_hiding.add_silencers.Given as goal

-- the silences so far, and those among the silences that are left, are all silences
abbrev pub invariant-loop-i : goal.invariant-loop-i
invariant-loop-i l =
    (k : ℕ) (s : LabelMap) → slice_get l.labels k ≡ Some s
    → list_at l.found k ++ positions_where (hides l.world s) l.i (drop l.i l.world.silences)
    ≡ list_at l.initial.found k ++ silencers l.world s
