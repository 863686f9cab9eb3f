use Rattle.std.proofs.Common.{◌≡◌, Some, unwrap_or, ap, sym}
use Rattle.serde_json.specs.View.{members_view}
use Rattle.am_universe.specs.declared.place.Place.TheVariants as places
use Rattle.am_config.specs.ConfigForm.{config_file_form}
use Rattle.am_config.specs.ConfigView.{config_view}
use Rattle.am_config.specs.WholeConfig.{rest_of}
use Rattle.am_json.proofs.Readings.{fault_of_file}
use Rattle.am_config.proofs.ConfigLaws.{config_file_laws}
use Rattle.am_config.proofs.config_file.read_whole_config.Goals as goal

pub returns-in-Ok-clause-says : goal.returns-in-Ok-clause-says
returns-in-Ok-clause-says c =
    let whole = c.in-Ok.whole in
    let fields = members_view whole.rest.entries in
    let read = config_file_laws.exact.read c.args.bytes.now (config_view whole.config) in
    let (few, d, is, says) = read.1 c.in-Ok.ensures.reads in
    let same : Some (rest_of d) ≡ Some fields = rw is at c.in-Ok.ensures.rest in
    (few, d, is, (says, sym (ap (λ found. unwrap_or found fields) same)))

pub returns-in-Err-clause-first : goal.returns-in-Err-clause-first
returns-in-Err-clause-first c =
    let bytes = c.args.bytes.now in
    fault_of_file places.Config c.in-Err.error c.at.result (config_file_form bytes) _
    (config_file_laws.refused bytes) c.at.ensures.fault c.in-Err.ensures.reads
