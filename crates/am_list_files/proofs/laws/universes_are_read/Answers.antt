use Rattle.am_list_files.proofs.UniverseLaws.{universe_laws}
use Rattle.am_list_files.proofs.laws.universes_are_read.Goals as goal

pub returns : goal.returns
returns c = record { read = universe_laws.exact; sound = universe_laws.sound; refused = universe_laws.refused }
