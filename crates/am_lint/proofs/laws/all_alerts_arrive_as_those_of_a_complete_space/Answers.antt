use Rattle.am_lint.proofs.Transfer.{arrival_over, reason_over, handed_over}
use Rattle.am_lint.proofs.laws.all_alerts_arrive_as_those_of_a_complete_space.Goals as goal

pub returns : goal.returns
returns c = record {
  arrival = λ a s config path arrival u texts complete.
      arrival_over a s config (record { universe = u; complete = complete; over = texts }) path
      arrival;
  reason = λ a s config path cause routes u texts complete.
      reason_over a s config (record { universe = u; complete = complete; over = texts }) path cause
      routes;
  handed = λ a s config path children u texts complete.
      handed_over a s config (record { universe = u; complete = complete; over = texts }) path
      children;
}
