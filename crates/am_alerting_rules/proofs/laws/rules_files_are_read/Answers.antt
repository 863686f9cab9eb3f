use Rattle.am_alerting_rules.proofs.RulesLaws.{rules_file_laws, rules_file_refused}
use Rattle.am_alerting_rules.proofs.laws.rules_files_are_read.Goals as goal

pub returns : goal.returns
returns c = record { read = rules_file_laws.exact; refused = rules_file_refused }
