use Rattle.std.proofs.Common.{rules}
use Rattle.am_config.specs.ConfigForm.{route_settings_form}
use Rattle.am_json.proofs.Readings.{steps}
use Rattle.am_config.proofs.config_file.read_route_settings.Goals as goal

pub returns-in_err-continues : goal.returns-in_err-continues
unfolding route_settings_form
returns-in_err-continues c = search (rules, steps) depth 40
