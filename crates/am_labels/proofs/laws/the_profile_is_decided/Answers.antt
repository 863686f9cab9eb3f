use Rattle.am_labels.proofs.PatternJoins.{profile_is_decided}
use Rattle.am_labels.proofs.laws.the_profile_is_decided.Goals as goal

pub returns : goal.returns
returns c = record { decided = profile_is_decided }
