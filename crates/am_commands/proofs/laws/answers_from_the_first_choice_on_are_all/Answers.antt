use Rattle.std.proofs.Common.{ap, sym, ◌∙◌}
use Rattle.std.specs.List.{filter}
use Rattle.am_universe.specs.Universe.{sizes}
use Rattle.am_eval.specs.Question.{is_answer}
use Rattle.am_eval.proofs.AnswerLaws.{answers_of_all}
use Rattle.am_search.proofs.Walks.{first_of_all}
use Rattle.am_commands.proofs.laws.answers_from_the_first_choice_on_are_all.Goals as goal

pub returns : goal.returns
returns c = record {
  all = λ s w q.
      ap (filter (is_answer s w q)) (first_of_all (sizes s.labels)) ∙ sym (answers_of_all s w q);
}
