use Rattle.am_every_alert.proofs.UniverseTexts.{universe_texts}
use Rattle.am_every_alert.proofs.laws.texts_of_universe_files_are_utf8.Goals as goal

pub returns : goal.returns
returns c = record { utf8 = universe_texts }
