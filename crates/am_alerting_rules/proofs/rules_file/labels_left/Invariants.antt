use Rattle.std.proofs.Common.{take, ◌≡◌}
use Rattle.am_alerting_rules.specs.RulesFile.{labels_left}
use Rattle.am_alerting_rules.proofs.rules_file.labels_left.Given as goal

-- the labels so far
abbrev pub invariant-loop-label : goal.invariant-loop-label
invariant-loop-label l = l.left ≡ labels_left l.own (take l.label-index l.labels)
