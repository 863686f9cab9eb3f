use Rattle.am_config.proofs.RuleExample.{says}
use Rattle.am_config.proofs.laws.an_example_of_a_rule.Goals as goal

pub returns : goal.returns
returns c = record { says = says }
