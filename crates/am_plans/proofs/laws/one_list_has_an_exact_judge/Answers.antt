use Rattle.std.proofs.Common.{refl}
use Rattle.am_eval.specs.Tree.{Part}
use Rattle.am_eval.specs.Question.{Braces}
use Rattle.am_search.proofs.TokenTexts.{sizes_of_universe}
use Rattle.am_plans.specs.Verdicts.{verdict_of}
use Rattle.am_plans.proofs.OneList.{is_exact_judge}
use Rattle.am_plans.proofs.laws.one_list_has_an_exact_judge.Goals as goal

pub returns : goal.returns
returns c = record {
  exact = λ s w ms universe none.
      is_exact_judge s w ms none (verdict_of s w (Part (Braces ms))) (λ prefix a. refl)
      (sizes_of_universe s.labels universe);
}
