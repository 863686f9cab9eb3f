use Rattle.std.proofs.Common.{◌≡◌, false, take}
use Rattle.std.specs.List.{list_any}
use Rattle.am_complete.specs.FoundState.{has_label}
use Rattle.am_complete.proofs.states_of_labels.is_seen.Given as goal

-- no alert so far has the label
abbrev pub invariant-loop-i : goal.invariant-loop-i
invariant-loop-i l = list_any (has_label l.name) (take l.i l.alerts) ≡ false
