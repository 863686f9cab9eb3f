use Rattle.std.proofs.Common.{◌≡◌, ◌≤◌, List, Some, take, count_by}
use Rattle.std.specs.Prelude.{slice_get}
use Rattle.am_universe.specs.LabelSet.{LabelMap}
use Rattle.am_config.specs.ConfigFile.{Rule}
use Rattle.am_eval.specs.Inhibition.{inhibits}
use Rattle.am_firing.specs.Deciding.{IsDecidedBy}
use Rattle.am_firing.proofs.wide.count_inhibited.Given as goal

-- how many of the alerts so far it inhibits
abbrev pub invariant-loop-other : goal.invariant-loop-other
invariant-loop-other l = record {
  counted : (rule : Rule) (alerts : List LabelMap) (alert : LabelMap)
      → IsDecidedBy rule alerts l.deciding → slice_get alerts l.firing ≡ Some alert
      → l.count ≡ count_by (inhibits rule alert) (take l.other alerts);
  few : l.count ≤ l.other;
}
