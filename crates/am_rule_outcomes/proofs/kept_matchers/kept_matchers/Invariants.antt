use Rattle.std.proofs.Common.{◌≡◌, ◌≤◌, length, take}
use Rattle.am_rule_outcomes.specs.Narrowing.{kept_matchers}
use Rattle.am_rule_outcomes.proofs.kept_matchers.kept_matchers.Given as goal

-- the matchers of the labels so far
abbrev pub invariant-loop-i : goal.invariant-loop-i
invariant-loop-i l = record {
  few : length l.matchers.items ≤ l.i;
  made : l.matchers.items ≡ kept_matchers (take l.i l.universe) l.narrowing;
}
