use Rattle.am_alerting_rules.proofs.RulesLaws.{rules_laws}
use Rattle.am_alerting_rules.proofs.laws.rules_are_read.Goals as goal

pub returns : goal.returns
returns c = record { read = rules_laws.exact; sound = rules_laws.sound }
