use Rattle.std.proofs.Common.{◌≡◌, ℕ, Some, length}
use Rattle.std.specs.Prelude.{slice_get}
use Rattle.std.specs.Global.{Vec}
use Rattle.am_route_alerts.specs.Nearby.{ListsAsking}
use Rattle.am_route_alerts.proofs.nearby.Nearby.of.Given as goal

-- the labels so far have their lists
abbrev pub invariant-loop-label : goal.invariant-loop-label
invariant-loop-label l = record {
  long : length l.asking.items ≡ l.label;
  lists : (label : ℕ) (list : Vec ℕ) → slice_get l.asking.items label ≡ Some list
      → ListsAsking l.literals label list.items;
}
