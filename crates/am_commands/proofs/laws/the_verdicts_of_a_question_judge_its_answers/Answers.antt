use Rattle.am_plans.proofs.Soundness.{question_judges}
use Rattle.am_commands.proofs.laws.the_verdicts_of_a_question_judge_its_answers.Goals as goal

pub returns : goal.returns
returns c = record { judge = question_judges }
