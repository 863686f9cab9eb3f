use Rattle.std.proofs.Common.{rules}
use Rattle.am_alerting_rules.specs.RulesForm.{rule_form}
use Rattle.am_alerting_rules.proofs.rules_file.read_each_rule.Goals as goal

pub returns : goal.returns
returns c =
    c.read_each_item.ensures.reading (rule_form c.args.group.now) (λ value found at. search rules)
