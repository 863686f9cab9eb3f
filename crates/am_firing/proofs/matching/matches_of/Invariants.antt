use Rattle.std.proofs.Common.{◌≡◌, ◌++◌, map, drop}
use Rattle.am_labels.specs.Matcher.{all_hold}
use Rattle.am_firing.proofs.matching.matches_of.Given as goal

-- the answers so far, and those for the alerts that are left, are all answers
abbrev pub invariant-loop-i : goal.invariant-loop-i
invariant-loop-i l = record {
  so_far : l.found.items ++ map (λ alert. all_hold alert l.matchers) (drop l.i l.alerts)
      ≡ map (λ alert. all_hold alert l.matchers) l.alerts;
  same : l.prepared ≡ l.matchers;
}
