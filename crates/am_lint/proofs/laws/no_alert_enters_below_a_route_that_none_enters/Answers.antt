use Rattle.am_every_alert.specs.EveryAlert.{IsAlertOf}
use Rattle.am_lint.proofs.BelowLaws.{none_enters_below}
use Rattle.am_lint.proofs.laws.no_alert_enters_below_a_route_that_none_enters.Goals as goal

pub returns : goal.returns
returns c = record { below = λ a s. none_enters_below (IsAlertOf a s) }
