-- The parts of a plan.
use Rattle.std.specs.Prelude.{ℕ, List, Bool}
use Rattle.am_universe.specs.Universe.{Label, sizes}
use Rattle.am_labels.specs.Space.{Space}
use Rattle.am_search.specs.declared.verdict.Verdict.{Verdict}
use Rattle.am_search.specs.Judge.{IsJudge}
use Rattle.am_plans.specs.declared.plan.Plan.{Plan}
use Rattle.am_plans.specs.PlanView.{judged_verdict, judged_truth}

-- The space of a plan, its labels and their sizes, its verdicts, which choices are true, and that
-- it meets the laws of a judge.
abbrev pub plan_space : Plan → Space
plan_space plan = plan.space.now

abbrev pub plan_universe : Plan → List Label
plan_universe plan = (plan_space plan).labels

abbrev pub plan_sizes : Plan → List ℕ
plan_sizes plan = sizes (plan_universe plan)

abbrev pub plan_verdict : Plan → List ℕ → Verdict
plan_verdict plan = judged_verdict plan.world plan.question plan.impossible

abbrev pub plan_truth : Plan → List ℕ → Bool
plan_truth plan = judged_truth plan.world plan.question plan.impossible

pub plan_is_judge : (plan : Plan) → IsJudge (plan_sizes plan) (plan_truth plan) (plan_verdict plan)
plan_is_judge plan = plan.judges
