-- The faults of the inputs come first, and what was found is what is written.
use Rattle.std.proofs.Common.{refl, string_bytes, map}
use Rattle.am_eval.specs.QuestionView.{question_view}
use Rattle.am_files.proofs.Promises.{refused, written, nothing_told}
use Rattle.am_universe_command.specs.Universes.{check_promise}
use Rattle.am_universe_command.proofs.checking.check_universe.Goals as goal

pub returns-in_err-read : goal.returns-in_err-read
returns-in_err-read g c =
    record {
      kept = refused (check_promise c.args.alphabet c.args.inputs.now c.args.routes)
          c.in_err-read.field-0.0 c.from_residual.result refl c.from_residual.ensures.1
          c.in_err-read.ensures.first;
    }

pub returns : goal.returns
returns g c =
    let read = c.in_ok-read.read in
    let questions = map question_view read.questions.items in
    record {
      kept = written (check_promise c.args.alphabet c.args.inputs.now c.args.routes) tt
          (string_bytes c.in-Ok.text) c.put_str.result c.answer_of_write.result
          (record {
            space = read.space;
            world = read.world;
            questions = questions;
            accepts = c.in_ok-read.ensures.accepts;
            checked = rw c.alerts_if_any-alerts.ensures at c.in-Ok.ensures;
          })
          (nothing_told c.put_str.result) (rw (← c.as_str.ensures.value) c.put_str.ensures.written)
          c.answer_of_write.ensures.answer;
    }
