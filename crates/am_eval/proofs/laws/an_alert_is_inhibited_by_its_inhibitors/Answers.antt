use Rattle.am_eval.proofs.InhibitionLaws.{exactly}
use Rattle.am_eval.proofs.laws.an_alert_is_inhibited_by_its_inhibitors.Goals as goal

pub returns-clause-exactly : goal.returns-clause-exactly
returns-clause-exactly _ = exactly
