-- The faults of the inputs come first, and the text that was made is what is written.
use Rattle.std.proofs.Common.{refl, string_bytes, map}
use Rattle.am_json.specs.Reading.{refusal_of}
use Rattle.am_eval.specs.QuestionView.{question_view}
use Rattle.am_files.proofs.FirstFaults.{first_of_more}
use Rattle.am_files.proofs.Promises.{refused, written, nothing_told}
use Rattle.am_universe_command.specs.UniverseInputs.{universe_input_stages}
use Rattle.am_files.specs.Faults.{later_stages}
use Rattle.am_asked.specs.OriginPointer.{matcher_places}
use Rattle.am_universe_command.specs.Universes.{universe_promise, RefusesMaking}
use Rattle.am_universe_command.proofs.FileNames.{space_named}
use Rattle.am_universe_command.proofs.UniverseStages.{making_refused}
use Rattle.am_universe_command.proofs.making.universe.Goals as goal

pub returns-in_err-read : goal.returns-in_err-read
returns-in_err-read g c =
    let fault = c.in_err-read.field-0.0 in
    let inputs = c.args.inputs.now in
    record {
      kept = refused (universe_promise inputs c.args.form) fault c.from_residual.result refl
          c.from_residual.ensures.1
          (λ remembered. first_of_more (universe_input_stages inputs)
          (later_stages matcher_places (RefusesMaking inputs c.args.form)) fault.place (refusal_of fault)
          (c.in_err-read.ensures.first remembered));
    }

pub made_text-requires-clause-named : goal.made_text-requires-clause-named
made_text-requires-clause-named g c =
    space_named c.args.inputs.now.universe c.in_ok-read.read.space
    c.in_ok-read.ensures.accepts.says_universe

pub returns-in_err-text : goal.returns-in_err-text
returns-in_err-text g c =
    let fault = c.in_err-text.field-0.0 in
    let inputs = c.args.inputs.now in
    let read = c.in_ok-read.read in
    record {
      kept = refused (universe_promise inputs c.args.form) fault
          c.from_residual-in_err-text.result refl c.from_residual-in_err-text.ensures.1
          (λ remembered. making_refused inputs c.args.form read.space
          (map string_bytes read.texts.items) read.world (map question_view read.questions.items)
          fault.place (refusal_of fault) c.in_ok-read.ensures.accepts c.in_ok-read.ensures.lists
          (c.in_err-text.ensures.refused remembered));
    }

pub returns : goal.returns
returns g c =
    let inputs = c.args.inputs.now in
    let read = c.in_ok-read.read in
    record {
      kept = written (universe_promise inputs c.args.form) tt (string_bytes c.in_ok-text.text)
          c.put_str.result c.answer_of_write.result
          (record {
            space = read.space;
            lists = map string_bytes read.texts.items;
            world = read.world;
            questions = map question_view read.questions.items;
            accepts = c.in_ok-read.ensures.accepts;
            has_lists = c.in_ok-read.ensures.lists;
            made = c.in_ok-text.ensures.made;
          })
          (nothing_told c.put_str.result) (rw (← c.as_str.ensures.value) c.put_str.ensures.written)
          c.answer_of_write.ensures.answer;
    }
