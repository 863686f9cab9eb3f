use Rattle.std.proofs.Common.{arith}
use Rattle.std.proofs.lemmas.Grind.{common_steps}
use Rattle.std.proofs.lemmas.List.Sums.{fold-append}
use Rattle.am_alerting_rules.proofs.alerting_rule.AlertingRule.fixed_set.Goals as goal

pub loop-label-preserved : goal.loop-label-preserved
loop-label-preserved c = grind (arith, common_steps, fold-append)
