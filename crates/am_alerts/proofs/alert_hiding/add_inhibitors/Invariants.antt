use Rattle.std.proofs.Common.{◌≡◌, ◌++◌, ℕ, Some, drop}
use Rattle.std.specs.Prelude.{slice_get}
use Rattle.std.specs.List.{flat_map, enumerate_from}
use Rattle.am_universe.specs.LabelSet.{LabelMap}
use Rattle.am_alerts.specs.AlertLists.{list_at, inhibitors_by}
use Rattle.am_alerts.proofs.alert_hiding.add_inhibitors.Given as goal

-- what inhibits by the rules so far, and by those that are left, is all that inhibits
abbrev pub invariant-loop-i : goal.invariant-loop-i
invariant-loop-i l =
    (k : ℕ) (s : LabelMap) → slice_get l.labels k ≡ Some s
    → list_at l.found k ++ flat_map (inhibitors_by l.labels s) (enumerate_from l.i (drop l.i l.rules))
    ≡ list_at l.initial.found k ++ flat_map (inhibitors_by l.labels s) (enumerate_from 0 l.rules)
