use Rattle.std.proofs.Common.{length, ◌++◌, ◌≡◌}
use Rattle.std.specs.Vec.Iter.{into_iter_items, into_iter_len}
use Rattle.am_alerting_rules.specs.RulesFile.{rules_of_groups}
use Rattle.am_alerting_rules.proofs.rules_file.rules_of_groups.Given as goal

-- the rules of the groups so far
abbrev pub invariant-loop-group : goal.invariant-loop-group
invariant-loop-group l = record {
  left : l.yielded ++ into_iter_items l.group-iterator ≡ l.fn.groups.items;
  len : into_iter_len l.group-iterator ≡ length (into_iter_items l.group-iterator);
  rules : l.rules.items ≡ rules_of_groups l.yielded;
}
