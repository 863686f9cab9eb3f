use Rattle.am_questions.proofs.QuestionRefusals.{question_accepted, question_kind}
use Rattle.am_questions.proofs.laws.a_question_is_not_read_and_refused.Goals as goal

pub returns : goal.returns
returns c = record { accepted = question_accepted; one = question_kind }
