use Rattle.am_list_files.proofs.SilencesLaws.{silences_laws}
use Rattle.am_list_files.proofs.laws.silences_are_read.Goals as goal

pub returns : goal.returns
returns c = record { read = silences_laws.exact; sound = silences_laws.sound; refused = silences_laws.refused }
