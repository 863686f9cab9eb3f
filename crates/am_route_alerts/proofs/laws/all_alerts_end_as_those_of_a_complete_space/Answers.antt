use Rattle.am_route_alerts.proofs.RouteAlertsOver.{route_alerts_over}
use Rattle.am_route_alerts.proofs.laws.all_alerts_end_as_those_of_a_complete_space.Goals as goal

pub returns : goal.returns
returns c = record { alerts = route_alerts_over }
