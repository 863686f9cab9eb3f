use Rattle.am_eval.proofs.SilenceLaws.{exactly}
use Rattle.am_eval.proofs.laws.an_alert_is_silenced_by_its_silencers.Goals as goal

pub returns-clause-exactly : goal.returns-clause-exactly
returns-clause-exactly _ = exactly
