use Rattle.std.proofs.Common.{◌≡◌, ◌++◌, ℕ, Some, drop, map}
use Rattle.std.specs.Prelude.{slice_get}
use Rattle.am_universe.specs.LabelSet.{LabelMap}
use Rattle.am_eval.specs.Silencing.{positions_where}
use Rattle.am_eval.specs.Inhibition.{inhibits}
use Rattle.am_alerts.specs.AlertLists.{list_at, inhibitors_by}
use Rattle.am_alerts.proofs.alert_hiding.add_inhibitors_by.Given as goal

-- the firing alerts so far, and those among the alerts that are left, are all firing alerts
abbrev pub invariant-loop-firing : goal.invariant-loop-firing
invariant-loop-firing l =
    (k : ℕ) (s : LabelMap) → slice_get l.labels k ≡ Some s
    → list_at l.found k ++ map (λ i. (l.position, i))
    (positions_where (λ a. inhibits l.rule a s) l.firing (drop l.firing l.labels))
    ≡ list_at l.initial.found k ++ inhibitors_by l.labels s (l.position, l.rule)
