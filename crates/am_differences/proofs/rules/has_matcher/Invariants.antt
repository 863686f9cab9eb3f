use Rattle.std.proofs.Common.{◌≡◌, false, take}
use Rattle.std.specs.List.{list_any}
use Rattle.am_differences.specs.RuleParts.{same_matcher}
use Rattle.am_differences.proofs.rules.has_matcher.Given as goal

abbrev pub invariant-loop-i : goal.invariant-loop-i
invariant-loop-i l = list_any (same_matcher l.matcher) (take l.i l.matchers) ≡ false
