use Rattle.std.proofs.Common.{refl, inr, Some}
use Rattle.am_universe.specs.Universe.{sizes}
use Rattle.am_eval.specs.Question.{is_answer}
use Rattle.am_search.proofs.Pages.{next_is_start}
use Rattle.am_search.specs.Token.{token_text}
use Rattle.am_questions.specs.Inputs.{inputs_fingerprint}
use Rattle.am_questions.proofs.OneInputs.{one_start}
use Rattle.am_commands.proofs.AskedAgain.{goes_on_at}
use Rattle.am_commands.proofs.laws.a_page_goes_on_at_its_token.Goals as goal

pub returns-clause-accepted : goal.returns-clause-accepted
returns-clause-accepted c inputs s w q start page d accepts is next = record {
  says_universe = accepts.says_universe;
  accepts_world = accepts.accepts_world;
  reads = accepts.reads;
  starts = (next_is_start (sizes s.labels) d (is_answer s w q) start page is next, inr refl);
}

pub returns-clause-under_a_budget : goal.returns-clause-under_a_budget
returns-clause-under_a_budget c = goes_on_at

pub returns-clause-alone : goal.returns-clause-alone
returns-clause-alone c inputs u next start universe is_start asks =
    one_start u inputs (Some (token_text (inputs_fingerprint inputs) next)) start next universe asks
    (is_start, inr refl)
