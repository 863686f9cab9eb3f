use Rattle.am_config.proofs.PathTexts.{path_text-injective}
use Rattle.am_config.proofs.laws.one_path_a_text.Goals as goal

pub returns : goal.returns
returns c = record { one = path_text-injective }
