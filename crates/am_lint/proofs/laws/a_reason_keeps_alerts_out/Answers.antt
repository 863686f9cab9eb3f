use Rattle.am_every_alert.specs.EveryAlert.{IsAlertOf}
use Rattle.am_lint.proofs.ReasonLaws.{excluded_none, taken_none, handed_none}
use Rattle.am_lint.proofs.laws.a_reason_keeps_alerts_out.Goals as goal

pub returns : goal.returns
returns c = record {
  excluded = λ a s. excluded_none (IsAlertOf a s);
  taken = λ a s. taken_none (IsAlertOf a s);
  handed = λ a s. handed_none (IsAlertOf a s);
}
