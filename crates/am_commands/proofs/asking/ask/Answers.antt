-- What was read is accepted, and what is owed after reading is what is owed for the inputs.
use Rattle.std.proofs.Common.{refl}
use Rattle.am_questions.specs.Inputs.{inputs_of}
use Rattle.am_files.proofs.Promises.{refused, kept_as}
use Rattle.am_commands.specs.AskOutcome.{ask_promise, page_promise}
use Rattle.am_commands.proofs.AskedPages.{page_of_read}
use Rattle.am_commands.proofs.asking.ask.Goals as goal

pub write_answers-requires : goal.write_answers-requires
write_answers-requires g c =
    record { limit = c.requires.limit; start = c.in_ok-accepted.ensures.start }

pub returns-in_err-accepted : goal.returns-in_err-accepted
returns-in_err-accepted g c =
    let page = c.args.page.now in
    let inputs = inputs_of c.args.universe.now c.args.files.now c.args.question.now page in
    record {
      kept = refused (ask_promise inputs page.limit page.steps) c.in_err-accepted.field-0.0
          c.from_residual.result refl c.from_residual.ensures.1 c.in_err-accepted.ensures.first;
    }

pub returns : goal.returns
returns g c =
    let page = c.args.page.now in
    let inputs = inputs_of c.args.universe.now c.args.files.now c.args.question.now page in
    let read = c.in_ok-accepted.accepted in
    record {
      kept = kept_as (page_promise read page.limit page.steps)
          (ask_promise inputs page.limit page.steps)
          c.write_answers.result refl
          (λ trailer text is. page_of_read inputs read page.limit page.steps trailer text
          c.in_ok-accepted.ensures.accepts c.in_ok-accepted.ensures.fingerprint c.requires.limit
          c.requires.steps is)
          c.write_answers.ensures.kept;
    }
