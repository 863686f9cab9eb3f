use Rattle.std.proofs.Common.{◌≡◌, [], ◌++◌, ap, ◌∙◌, fold, map}
use Rattle.std.proofs.lemmas.List.Sums.{fold-append}
use Rattle.am_config.specs.ConfigFile.{Configuration}
use Rattle.am_eval.specs.QuestionView.{question_view}
use Rattle.am_complete.specs.AskedLabel.{with_asked}
use Rattle.am_asked.specs.Placed.{placed_in_routes, placed_in_rules, placed_in_equal}
use Rattle.am_asked.specs.Placed.{placed_in_silences, placed_in_lists, placed_in_world}
use Rattle.am_asked.specs.Placed.{placed_in_questions}
use Rattle.am_asked.proofs.AskedLemmas.{asked_of}
use Rattle.am_asked.proofs.PlacedMatchers.{both_placed, of_world, of_questions, of_impossible}
use Rattle.am_asked.proofs.asked.asked_in_world.Goals as goal

pub returns-clause-asked : goal.returns-clause-asked
returns-clause-asked c =
    let w = c.args.world.now in
    let lists = c.args.impossible.now in
    let questions = map question_view c.args.questions.now in
    let asked = placed_in_questions questions in
    let routes = placed_in_routes w.config in
    let rules = placed_in_rules w.config.rules in
    let equal = placed_in_equal w in
    let silences = placed_in_silences w.silences in
    let sides : c.rules.result.now ≡ w.config.rules =
    c.rules.ensures.rules ∙ ap (λ (k : Configuration). k.rules) c.config-2.ensures.config in
    rw (
      c.into_labels.ensures,
      c.in_ok-visit_lists.ensures.visit,
      c.in_ok-add_questions.ensures,
      c.in_ok-add_silences.ensures,
      c.in_ok-add_equal_matchers.ensures,
      c.in_ok-visit_rules.ensures.visit,
      c.in_ok-visit_routes.ensures.visit,
      c.empty-gathering.ensures,
      ap placed_in_routes c.config.ensures.config,
      sides,
      c.silences.ensures.silences,
      c.requires,
      ← fold-append with_asked (fold with_asked (fold with_asked [] routes) rules) equal silences,
      ← fold-append with_asked (fold with_asked [] routes) rules (equal ++ silences),
      ← fold-append with_asked [] routes (rules ++ (equal ++ silences)),
      ← fold-append with_asked (fold with_asked [] (placed_in_world w)) asked (placed_in_lists lists),
      ← fold-append with_asked [] (placed_in_world w) (asked ++ placed_in_lists lists),
    ) (asked_of (both_placed (of_world w)
    (both_placed (of_questions questions) (of_impossible lists))))
