use Rattle.std.proofs.Common.{length, map, ◌++◌, ◌≡◌}
use Rattle.std.specs.Vec.Iter.{into_iter_items, into_iter_len}
use Rattle.am_alerting_rules.specs.RulesFile.{rules_among, with_labels_below}
use Rattle.am_alerting_rules.proofs.rules_file.rules_with_labels.Given as goal

-- the rules so far
abbrev pub invariant-loop-rule : goal.invariant-loop-rule
invariant-loop-rule l = record {
  left : l.yielded ++ into_iter_items l.rule-iterator ≡ l.fn.found.items;
  len : into_iter_len l.rule-iterator ≡ length (into_iter_items l.rule-iterator);
  rules : l.rules.items ≡ map (with_labels_below l.labels) (rules_among l.yielded);
}
