use Rattle.std.proofs.Common.{◌≡◌, take, false}
use Rattle.std.specs.List.{list_any}
use Rattle.am_labels.specs.Matcher.{all_hold}
use Rattle.am_idle.proofs.silences.matches_any.Given as goal

-- none of the alerts so far is matched
abbrev pub invariant-loop-i : goal.invariant-loop-i
invariant-loop-i l = record {
  none : list_any (λ alert. all_hold alert l.matchers) (take l.i l.alerts) ≡ false;
  same : l.prepared ≡ l.matchers;
}
