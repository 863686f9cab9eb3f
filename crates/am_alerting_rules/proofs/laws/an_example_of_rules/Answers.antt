use Rattle.am_alerting_rules.proofs.RulesExample.{alert, no_alert, says}
use Rattle.am_alerting_rules.proofs.laws.an_example_of_rules.Goals as goal

pub returns : goal.returns
returns c = record { says = says; alert = alert; no_alert = no_alert }
