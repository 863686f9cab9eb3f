use Rattle.std.proofs.Common.{ap, sym, ◌∙◌, arith}
use Rattle.std.proofs.lemmas.Grind.{common_steps}
use Rattle.am_universe.specs.Universe.{sizes}
use Rattle.am_eval.specs.Question.{is_answer}
use Rattle.am_search.specs.Page.{answers_from_any}
use Rattle.am_search.specs.Token.{token_text}
use Rattle.am_search.specs.PageText.{lines_text}
use Rattle.am_questions.specs.Inputs.{inputs_fingerprint, after_token}
use Rattle.am_commands.proofs.AskedAgain.{whole_page, whole_lines, same_lines, asked_goes_on}
use Rattle.am_commands.proofs.laws.starting_again_writes_exactly_the_rest.Goals as goal

-- a call with the token of a trailer, without a limit and without a budget, writes what that
-- trailer left
pub returns : goal.returns
returns _ = record {
  ends = λ inputs first second next asked ends again unlimited unbudgeted.
      grind (arith, common_steps, whole_page);
  rest = λ inputs first second next asked ends again unlimited unbudgeted.
      let later = after_token inputs (token_text (inputs_fingerprint inputs) next) in
      whole_lines later second again unlimited unbudgeted
      ∙ same_lines later again.2.space asked.2.space again.2.world asked.2.world again.2.question
      asked.2.question again.2.start next again.2.accepts (asked_goes_on inputs first asked next ends)
      ∙ ap (λ o. lines_text asked.2.space.labels (answers_from_any (sizes asked.2.space.labels)
      (is_answer asked.2.space asked.2.world asked.2.question) o)) (sym ends);
}
