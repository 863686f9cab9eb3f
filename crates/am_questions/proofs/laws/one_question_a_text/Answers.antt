use Rattle.am_questions.proofs.OneMeaning.{one_question}
use Rattle.am_questions.proofs.laws.one_question_a_text.Goals as goal

pub returns : goal.returns
returns c = record { one = one_question }
