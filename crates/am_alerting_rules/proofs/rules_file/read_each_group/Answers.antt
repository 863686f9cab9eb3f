use Rattle.std.proofs.Common.{rules}
use Rattle.am_alerting_rules.specs.RulesForm.{group_form}
use Rattle.am_alerting_rules.proofs.rules_file.read_each_group.Goals as goal

pub returns : goal.returns
returns c = c.read_each_item.ensures.reading group_form (λ value found at. search rules)
