use Rattle.am_config.proofs.ConfigLaws.{config_file_laws}
use Rattle.am_config.proofs.laws.configuration_files_are_read.Goals as goal

pub returns : goal.returns
returns c = record { read = config_file_laws.exact; refused = config_file_laws.refused }
