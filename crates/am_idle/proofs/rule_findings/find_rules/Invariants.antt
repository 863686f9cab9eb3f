use Rattle.std.proofs.Common.{◌≡◌, [], take}
use Rattle.std.specs.List.{AllByRecursion, AllZip}
use Rattle.am_idle.specs.Rules.{IsRuleFinding}
use Rattle.am_idle.specs.RuleFindings.{IsRuleAccepted}
use Rattle.am_idle.proofs.rule_findings.find_rules.Given as goal

-- what is said of the rules so far is true, and none of them was refused
abbrev pub invariant-loop-i : goal.invariant-loop-i
invariant-loop-i l = record {
  found : AllZip (IsRuleFinding l.alphabet l.fn.space) (take l.i l.rules) l.found.items;
  accepted : AllByRecursion (IsRuleAccepted l.alphabet l.fn.space) (take l.i l.rules);
  labels : l.space.labels ≡ [];
  impossible : l.space.impossible ≡ l.fn.space.impossible;
}
