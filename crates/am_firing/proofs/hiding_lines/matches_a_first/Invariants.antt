use Rattle.std.proofs.Common.{◌≡◌, map, take, false}
use Rattle.std.specs.List.{AllByRecursion}
use Rattle.am_labels.specs.Matcher.{all_hold}
use Rattle.am_firing.specs.Going.{are_all_marked}
use Rattle.am_firing.proofs.hiding_lines.matches_a_first.Given as goal

-- not all alerts of any receiver so far are matched
abbrev pub invariant-loop-positions : goal.invariant-loop-positions
invariant-loop-positions l = record {
  none : AllByRecursion
      (λ positions. are_all_marked (map (λ alert. all_hold alert l.matchers) l.alerts)
      positions.items ≡ false) (take l.positions-index l.going);
  same : l.prepared ≡ l.matchers;
}
