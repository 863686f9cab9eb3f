use Rattle.am_every_alert.proofs.SpaceAlerts.{alert_choice}
use Rattle.am_every_alert.proofs.laws.a_complete_universe_stands_for_every_alert.Goals as goal

pub returns : goal.returns
returns c = record { stands = alert_choice }
