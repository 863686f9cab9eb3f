use Rattle.std.proofs.Common.{[], ◌++◌, map, fold}
use Rattle.std.proofs.lemmas.List.Sums.{fold-append}
use Rattle.am_config.specs.ConfigView.{config_view}
use Rattle.am_eval.specs.QuestionView.{question_view}
use Rattle.am_complete.specs.AskedLabel.{with_asked}
use Rattle.am_asked.specs.Placed.{placed_in_routes, placed_in_questions, placed_in_lists}
use Rattle.am_asked.proofs.AskedLemmas.{asked_of}
use Rattle.am_asked.proofs.PlacedMatchers.{both_placed, of_routes, of_questions, of_impossible}
use Rattle.am_asked.proofs.asked.asked_by_routes.Goals as goal

pub returns-clause-asked : goal.returns-clause-asked
returns-clause-asked c =
    let config = config_view c.args.config.now in
    let questions = map question_view c.args.questions.now in
    let lists = c.args.impossible.now in
    let routes = placed_in_routes config in
    let asked = placed_in_questions questions in
    rw (
      c.into_labels.ensures,
      c.in_ok-visit_lists.ensures.visit,
      c.in_ok-add_questions.ensures,
      c.in_ok-visit_routes.ensures.visit,
      c.empty-gathering.ensures,
      ← fold-append with_asked (fold with_asked [] routes) asked (placed_in_lists lists),
      ← fold-append with_asked [] routes (asked ++ placed_in_lists lists),
    ) (asked_of (both_placed (of_routes [] config.root)
    (both_placed (of_questions questions) (of_impossible lists))))
