use Rattle.am_every_alert.proofs.SpaceAlerts.{ends_of_choice}
use Rattle.am_every_alert.proofs.laws.every_alert_of_a_space_ends_as_a_choice_does.Goals as goal

pub returns : goal.returns
returns c = record {
  ends = λ a s config alert h complete is. ends_of_choice a s alert h is config complete;
}
