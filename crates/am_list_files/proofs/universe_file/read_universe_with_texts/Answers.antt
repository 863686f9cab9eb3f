use Rattle.std.proofs.Common.{map, string_bytes}
use Rattle.am_universe.specs.declared.place.Place.TheVariants as places
use Rattle.am_list_files.specs.UniverseForm.{universe_file_form}
use Rattle.am_json.proofs.Readings.{fault_of_file}
use Rattle.am_list_files.proofs.UniverseLaws.{universe_file_laws}
use Rattle.am_list_files.proofs.UniverseTexts.{texts_say_lists}
use Rattle.am_list_files.proofs.universe_file.read_universe_with_texts.Goals as goal

pub returns-in-Ok-clause-says : goal.returns-in-Ok-clause-says
returns-in-Ok-clause-says c =
    let read = universe_file_laws.exact.read c.args.bytes.now c.in-Ok.found.0 in
    read.1 c.in-Ok.ensures.space

pub returns-in-Ok-clause-texts : goal.returns-in-Ok-clause-texts
returns-in-Ok-clause-texts c =
    let read = universe_file_laws.exact.read c.args.bytes.now c.in-Ok.found.0 in
    texts_say_lists c.args.bytes.now c.in-Ok.found.0 (map string_bytes c.in-Ok.found.1.items)
    (read.1 c.in-Ok.ensures.space) c.in-Ok.ensures.texts

pub returns-in-Err-clause-first : goal.returns-in-Err-clause-first
returns-in-Err-clause-first c =
    let bytes = c.args.bytes.now in
    fault_of_file places.Universe c.in-Err.error c.at.result (universe_file_form bytes) _
    (universe_file_laws.refused bytes) c.at.ensures.fault c.in-Err.ensures.space
