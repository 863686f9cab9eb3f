use Rattle.am_universe.specs.declared.place.Place.TheVariants as places
use Rattle.am_list_files.specs.SilencesForm.{silences_file_form}
use Rattle.am_json.proofs.Readings.{fault_of_file}
use Rattle.am_list_files.proofs.SilencesLaws.{silences_file_laws}
use Rattle.am_list_files.proofs.silences_file.read_silences.Goals as goal

pub returns-in-Ok-clause-says : goal.returns-in-Ok-clause-says
returns-in-Ok-clause-says c =
    let read = silences_file_laws.exact.read c.args.bytes.now c.in-Ok.silences in read.1 c.in-Ok.ensures

pub returns-in-Err-clause-first : goal.returns-in-Err-clause-first
returns-in-Err-clause-first c =
    let bytes = c.args.bytes.now in
    fault_of_file places.Silences c.in-Err.error c.at.result (silences_file_form bytes) _
    (silences_file_laws.refused bytes) c.at.ensures.fault c.in-Err.ensures
