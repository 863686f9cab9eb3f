use Rattle.am_eval.specs.Reaching.{EndsAt, Enters, GoesTo}
use Rattle.am_every_alert.proofs.SpaceAlerts.{none_over, ends_told, enters_told, goes_told}
use Rattle.am_commands.proofs.laws.a_dead_route_of_a_complete_universe_has_no_alert.Goals as goal

pub returns : goal.returns
returns _ = record {
  dead = λ a s c path h complete. none_over a s c h complete (EndsAt c path) (ends_told c path);
  never_entered = λ a s c path h complete.
      none_over a s c h complete (Enters c path) (enters_told c path);
  unmatched = λ a s c receiver h complete.
      none_over a s c h complete (GoesTo c receiver) (goes_told c receiver);
}
