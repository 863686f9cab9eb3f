use Rattle.am_every_alert.proofs.SpaceAlerts.{answer_of_alert, no_alert, no_alert_by_routes}
use Rattle.am_every_alert.proofs.laws.a_question_without_answers_is_true_of_no_alert.Goals as goal

pub returns : goal.returns
returns c = record {
  answered = λ a s w q alert h complete is. answer_of_alert a s alert h is w q complete;
  unanswered = λ a s w q alert h complete is. no_alert a s alert h is w q complete;
  by_routes = λ a s w q alert h complete none is.
      no_alert_by_routes a s alert h is w q complete none;
}
