use Rattle.am_every_alert.proofs.SpaceAlerts.{space_choice}
use Rattle.am_every_alert.proofs.laws.a_complete_space_stands_for_every_alert_of_it.Goals as goal

pub returns : goal.returns
returns c = record { stands = space_choice }
