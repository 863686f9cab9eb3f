use Rattle.std.proofs.lemmas.Result.{err_from_is_err_and}
use Rattle.serde_json.specs.View.{view}
use Rattle.am_json.specs.Reading.{◌>>=◌, read_json_fields}
use Rattle.am_json.proofs.OnlyFields.{gives_led}
use Rattle.am_json.proofs.Readings.{fails_first, fails_led, gives_later}
use Rattle.am_config.specs.ConfigForm.{config_form, config_file_form}
use Rattle.am_config.specs.ConfigView.{config_view}
use Rattle.am_config.proofs.ConfigFields.{config_fields, fields_of_file}
use Rattle.am_config.proofs.config_file.read_config_file.Goals as goal

pub returns : goal.returns
returns c =
    let bytes = c.args.bytes.now in
    let fields = read_json_fields config_fields bytes in
    gives_led config_view c.read_config_value.result (fields >>= config_form)
    (config_file_form bytes) (fields_of_file bytes)
    (gives_later config_view c.read_config_value.result fields config_form
    (view c.in_ok-value.value) c.in_ok-value.ensures.reading c.read_config_value.ensures)

pub returns-in_err-value : goal.returns-in_err-value
returns-in_err-value c =
    let bytes = c.args.bytes.now in
    let fields = read_json_fields config_fields bytes in
    let e = c.in_err-value.field-0.0 in
    let p = err_from_is_err_and c.from_residual.result c.from_residual.ensures.1 in
    rw (p.1, p.2) (fails_led e (fields >>= config_form) (config_file_form bytes)
    (fields_of_file bytes) (fails_first e fields config_form c.in_err-value.ensures.reading))
