use Rattle.std.proofs.Common.{◌≡◌, true, take}
use Rattle.am_differences.specs.RuleParts.{has_matchers}
use Rattle.am_differences.proofs.rules.has_matchers.Given as goal

abbrev pub invariant-loop-i : goal.invariant-loop-i
invariant-loop-i l = has_matchers l.matchers (take l.i l.others) ≡ true
