use Rattle.am_alerting_rules.proofs.RuleTexts.{rules_texts}
use Rattle.am_alerting_rules.proofs.laws.texts_of_rules_files_are_utf8.Goals as goal

pub returns : goal.returns
returns c = record { utf8 = rules_texts }
