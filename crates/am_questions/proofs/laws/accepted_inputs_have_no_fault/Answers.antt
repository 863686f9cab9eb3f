use Rattle.am_questions.proofs.AcceptedAsk.{asked_accepted}
use Rattle.am_questions.proofs.laws.accepted_inputs_have_no_fault.Goals as goal

pub returns : goal.returns
returns c = record { pattern = asked_accepted }
