use Rattle.am_list_files.proofs.SilencesLaws.{silences_file_laws}
use Rattle.am_list_files.proofs.laws.silence_files_are_read.Goals as goal

pub returns : goal.returns
returns c = record { read = silences_file_laws.exact; refused = silences_file_laws.refused }
