use Rattle.am_questions.proofs.OneInputs.{one_meaning_of_inputs}
use Rattle.am_questions.proofs.laws.accepted_inputs_mean_one_thing.Goals as goal

pub returns : goal.returns
returns c = record { one = one_meaning_of_inputs }
