use Rattle.am_universe.specs.declared.place.Place.TheVariants as places
use Rattle.am_list_files.specs.AlertsForm.{alerts_file_form}
use Rattle.am_json.proofs.Readings.{fault_of_file}
use Rattle.am_list_files.proofs.AlertsLaws.{alerts_file_laws, alerts_file_refused}
use Rattle.am_list_files.proofs.alerts_file.read_alerts.Goals as goal

pub returns-in-Ok-clause-says : goal.returns-in-Ok-clause-says
returns-in-Ok-clause-says c =
    let read = alerts_file_laws.exact.read c.args.bytes.now c.in-Ok.alerts in read.1 c.in-Ok.ensures

pub returns-in-Err-clause-first : goal.returns-in-Err-clause-first
returns-in-Err-clause-first c =
    let bytes = c.args.bytes.now in
    fault_of_file places.Alerts c.in-Err.error c.at.result (alerts_file_form bytes) _
    (alerts_file_refused bytes) c.at.ensures.fault c.in-Err.ensures
