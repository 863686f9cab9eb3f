use Rattle.std.proofs.Common.{◌≡◌, false, take}
use Rattle.std.specs.List.{list_any}
use Rattle.am_labels.specs.Matcher.{all_hold}
use Rattle.am_complete.proofs.possible_texts.matches_one.Given as goal

-- no list so far matches
abbrev pub invariant-loop-i : goal.invariant-loop-i
invariant-loop-i l = record {
  none : list_any (all_hold l.set) (take l.i l.initial.lists.items) ≡ false;
  same : l.lists.items ≡ l.initial.lists.items;
}
