use Rattle.std.proofs.Common.{◌≡◌, length, take}
use Rattle.am_config.specs.ConfigView.{whole_config_view}
use Rattle.am_differences.specs.RuleParts.{named_rules}
use Rattle.am_differences.specs.PartsView.{rules_view}
use Rattle.am_differences.proofs.rules.named_rules.Given as goal

abbrev pub invariant-loop-rule : goal.invariant-loop-rule
invariant-loop-rule l =
    rules_view l.rules.items ≡ take (length l.yielded) (named_rules (whole_config_view l.config))
