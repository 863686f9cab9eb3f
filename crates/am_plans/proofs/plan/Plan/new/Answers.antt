use Rattle.std.proofs.Common.{List, map, ap, ◌∙◌, subst, rules}
use Rattle.am_universe.specs.Universe.{Label, sizes}
use Rattle.am_search.specs.Judge.{AreSizes}
use Rattle.am_search.proofs.TokenTexts.{sizes_of_universe}
use Rattle.am_judged_lists.specs.Cube.{verdict_at}
use Rattle.am_config.specs.ConfigFile.{Configuration}
use Rattle.am_eval.specs.QuestionView.{question_view}
use Rattle.am_plans.specs.RouteGroups.{AreRoutesOf}
use Rattle.am_plans.specs.WorldByLists.{world_seen}
use Rattle.am_plans.proofs.PlanJudges.{IsQuestionOver, AreImpossible, verdict_is, truth_is, is_judge}
use Rattle.am_plans.proofs.plan.Plan.new.Goals as goal
use Rattle.am_plans.proofs.plan.Plan.new.Goals.{In_ok-impossible}

exact : (c : In_ok-impossible) → IsQuestionOver c.args.space.now.labels c.args.world.now
    (question_view c.args.question.now) c.in_ok-world.world c.in_ok-question.question
exact c =
    let w = c.args.world.now in
    let world = c.in_ok-world.world in
    subst (λ (u : List Label). IsQuestionOver u w (question_view c.args.question.now) world
    c.in_ok-question.question) c.universe-universe.ensures.labels
    (λ prefix m admitted.
    c.in_ok-question.ensures.exact w prefix (world_seen prefix world) m
    (subst (λ (config : Configuration). AreRoutesOf config c.in_ok-routes.routes) c.config.ensures.config c.in_ok-routes.ensures.routes)
    admitted (c.in_ok-world.ensures.serves prefix admitted))

cubes : (c : In_ok-impossible) → AreImpossible c.args.space.now c.in_ok-impossible.impossible
cubes c prefix admitted =
    ap (map (λ cube. verdict_at cube prefix)) c.in_ok-impossible.ensures.cubes
    ∙ c.in_ok-impossible_cubes.ensures.verdicts prefix admitted

pub invariant_of-result : goal.invariant_of-result
invariant_of-result c = record {
  judges = is_judge c.args.space.now c.args.world.now (question_view c.args.question.now)
      c.in_ok-world.world c.in_ok-question.question c.in_ok-impossible.impossible (exact c) (cubes c)
      (subst (λ (u : List Label). AreSizes (sizes u)) c.universe-universe.ensures.labels
      (sizes_of_universe c.universe-universe.result.now c.len.ensures.universe));
}

pub returns : goal.returns
returns c =
    let p = (goal.at.returns c).In_ok-impossible in
    let s = p.args.space.now in
    let q = question_view p.args.question.now in
    let impossible = p.in_ok-impossible.impossible in
    record {
      space = search rules;
      verdict = verdict_is s p.args.world.now q p.in_ok-world.world p.in_ok-question.question
          impossible (exact p) (cubes p);
      truth = truth_is s p.args.world.now q p.in_ok-world.world p.in_ok-question.question
          impossible (exact p) (cubes p);
    }
