use Rattle.am_universe.specs.declared.place.Place.TheVariants as places
use Rattle.am_alerting_rules.specs.RulesForm.{rules_file_form}
use Rattle.am_json.proofs.Readings.{fault_of_file}
use Rattle.am_alerting_rules.proofs.RulesLaws.{rules_file_laws, rules_file_refused}
use Rattle.am_alerting_rules.proofs.rules_file.read_alerting_rules.Goals as goal

pub returns-in-Ok-clause-says : goal.returns-in-Ok-clause-says
returns-in-Ok-clause-says c =
    let read = rules_file_laws.exact.read c.args.bytes.now c.in-Ok.rules in read.1 c.in-Ok.ensures

pub returns-in-Err-clause-first : goal.returns-in-Err-clause-first
returns-in-Err-clause-first c =
    let bytes = c.args.bytes.now in
    fault_of_file places.Rules c.in-Err.error c.at.result (rules_file_form bytes) _
    (rules_file_refused bytes) c.at.ensures.fault c.in-Err.ensures
