use Rattle.std.proofs.Common.{◌≡◌, [], take}
use Rattle.std.specs.List.{AllZip}
use Rattle.am_reports.specs.RulesReach.{AreSides}
use Rattle.am_reports.proofs.rules_reach.sides_matched.Given as goal

-- what is said of the sides so far is true
abbrev pub invariant-loop-rule : goal.invariant-loop-rule
invariant-loop-rule l = record {
  each : AllZip (AreSides l.alphabet l.fn.space l.rules) (take l.rule-index l.inhibition) l.found.items;
  labels : l.space.labels ≡ [];
  impossible : l.space.impossible ≡ l.fn.space.impossible;
}
