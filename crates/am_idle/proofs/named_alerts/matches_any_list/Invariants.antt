use Rattle.std.proofs.Common.{◌≡◌, take, false}
use Rattle.std.specs.List.{list_any}
use Rattle.am_labels.specs.Matcher.{all_hold}
use Rattle.am_idle.proofs.named_alerts.matches_any_list.Given as goal

-- none of the lists so far matches
abbrev pub invariant-loop-list : goal.invariant-loop-list
invariant-loop-list l = list_any (all_hold l.set) (take l.list-index l.lists) ≡ false
