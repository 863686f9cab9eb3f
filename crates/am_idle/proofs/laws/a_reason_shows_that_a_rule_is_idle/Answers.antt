use Rattle.am_idle.proofs.RuleAlerts.{idle_by}
use Rattle.am_idle.proofs.laws.a_reason_shows_that_a_rule_is_idle.Goals as goal

pub returns : goal.returns
returns c = record { idle = λ a s rule reason why. idle_by rule a s reason why }
