use Rattle.am_eval.proofs.AnswerLaws.{answers_exact}
use Rattle.am_eval.proofs.laws.answers_are_the_choices_that_satisfy.Goals as goal

pub returns-clause-exactly : goal.returns-clause-exactly
returns-clause-exactly _ = answers_exact
