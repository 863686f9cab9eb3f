use Rattle.am_list_files.proofs.UniverseLaws.{universe_file_laws}
use Rattle.am_list_files.proofs.laws.universe_files_are_read.Goals as goal

pub returns : goal.returns
returns c = record { read = universe_file_laws.exact; refused = universe_file_laws.refused }
