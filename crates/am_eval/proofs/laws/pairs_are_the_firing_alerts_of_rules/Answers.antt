use Rattle.am_eval.proofs.PairLemmas.{exactly}
use Rattle.am_eval.proofs.laws.pairs_are_the_firing_alerts_of_rules.Goals as goal

pub returns-clause-exactly : goal.returns-clause-exactly
returns-clause-exactly _ = exactly
