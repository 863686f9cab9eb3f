use Rattle.am_every_alert.proofs.UniverseAlerts.{universe_alert}
use Rattle.am_every_alert.proofs.laws.label_sets_of_a_universe_are_alerts.Goals as goal

pub returns : goal.returns
returns c = record { alert = universe_alert }
