use Rattle.am_universe.specs.declared.place.Place.TheVariants as places
use Rattle.am_config.specs.ConfigForm.{config_file_form}
use Rattle.am_config.specs.ConfigView.{config_view}
use Rattle.am_json.proofs.Readings.{fault_of_file}
use Rattle.am_config.proofs.ConfigLaws.{config_file_laws}
use Rattle.am_config.proofs.config_file.read_config.Goals as goal

pub returns-in-Ok-clause-says : goal.returns-in-Ok-clause-says
returns-in-Ok-clause-says c =
    let read = config_file_laws.exact.read c.args.bytes.now (config_view c.in-Ok.config) in
    read.1 c.in-Ok.ensures

pub returns-in-Err-clause-first : goal.returns-in-Err-clause-first
returns-in-Err-clause-first c =
    let bytes = c.args.bytes.now in
    fault_of_file places.Config c.in-Err.error c.at.result (config_file_form bytes) _
    (config_file_laws.refused bytes) c.at.ensures.fault c.in-Err.ensures
