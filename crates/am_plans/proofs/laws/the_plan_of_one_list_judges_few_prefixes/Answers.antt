use Rattle.am_search.proofs.VisitsBound.{visited_at_most, visited_from_first}
use Rattle.am_eval.specs.Tree.{Part}
use Rattle.am_eval.specs.Question.{Braces, is_answer}
use Rattle.am_plans.specs.PlanWords.{plan_space, plan_sizes, plan_verdict, plan_is_judge}
use Rattle.am_plans.proofs.OneList.{is_exact_judge}
use Rattle.am_plans.proofs.laws.the_plan_of_one_list_judges_few_prefixes.Goals as goal

pub returns : goal.returns
returns c = record {
  at_most = λ plan w ms start none same.
      visited_at_most (plan_sizes plan) (is_answer (plan_space plan) w (Part (Braces ms)))
      (plan_verdict plan) start
      (is_exact_judge (plan_space plan) w ms none (plan_verdict plan) same
      (plan_is_judge plan).limits);
  from_the_first = λ plan w ms none same.
      visited_from_first (plan_sizes plan) (is_answer (plan_space plan) w (Part (Braces ms)))
      (plan_verdict plan)
      (is_exact_judge (plan_space plan) w ms none (plan_verdict plan) same
      (plan_is_judge plan).limits);
}
