use Rattle.std.proofs.Common.{Some, option_map, sym, ap, ◌∙◌}
use Rattle.serde_json.specs.View.{view}
use Rattle.am_config.specs.WholeConfig.{rest_of}
use Rattle.am_json.proofs.Deciding.{json_decides}
use Rattle.am_config.proofs.config_file.read_whole_config_file.Goals as goal

pub returns-clause-rest : goal.returns-clause-rest
returns-clause-rest c =
    let value = view c.in_ok-value.value in
    let json = (json_decides c.args.bytes.now).says value c.in_ok-value.ensures.reading in
    ap (option_map rest_of) json.1 ∙ ap Some (sym c.rest_of-rest.ensures)
