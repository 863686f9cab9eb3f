use Rattle.am_every_alert.specs.EveryAlert.{IsAlertOf}
use Rattle.am_route_alerts.proofs.ReceiverLines.{goes_by_lines}
use Rattle.am_route_alerts.proofs.laws.an_alert_goes_to_a_receiver_where_it_meets_one_of_its_lines.Goals as goal

pub returns : goal.returns
returns c = record {
  goes = λ a s config receivers found receiver alert are asked is.
      goes_by_lines (IsAlertOf a s) config alert is receivers found receiver are asked;
}
