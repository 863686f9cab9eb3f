use Rattle.std.proofs.Common.{◌≡◌, take}
use Rattle.am_differences.specs.RuleParts.{rules_only_in}
use Rattle.am_differences.specs.PartsView.{rules_view}
use Rattle.am_differences.proofs.rules.rules_only_in.Given as goal

abbrev pub invariant-loop-rule : goal.invariant-loop-rule
invariant-loop-rule l =
    rules_view l.found.items
    ≡ rules_only_in (rules_view (take l.rule-index l.rules)) (rules_view l.others)
