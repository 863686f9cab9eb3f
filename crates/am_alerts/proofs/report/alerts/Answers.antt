-- What was read is accepted, and what was found is what is written.
use Rattle.std.proofs.Common.{ℕ, List, [], ◌∷◌, Option, inl, refl}
use Rattle.std.specs.Prelude.{option_copied}
use Rattle.am_json.specs.Reading.{refusal_of}
use Rattle.am_eval.specs.QuestionView.{question_view}
use Rattle.am_files.specs.Files.{Files, config_of}
use Rattle.am_files.specs.Faults.{Stage}
use Rattle.am_files.specs.AcceptedWorld.{world_stages}
use Rattle.am_files.proofs.FirstFaults.{first_of_more, first_behind_world}
use Rattle.am_files.proofs.Promises.{refused, written, nothing_told}
use Rattle.am_questions.specs.QuestionStages.{question_stage}
use Rattle.am_questions.specs.QuestionText.{ReadsQuestion, QuestionRefusedFor}
use Rattle.am_alerts.specs.Alerts.{asked_text, alerts_promise}
use Rattle.am_alerts.proofs.report.alerts.Goals as goal

-- the stage after those of the files
abbrev last_stage : Files → Option (List ℕ) → List Stage
last_stage files asked = question_stage (config_of files.config) (asked_text asked) ∷ []

pub returns-in_err-world : goal.returns-in_err-world
returns-in_err-world g c =
    let fault = c.in_err-world.field-0.0 in
    let files = c.args.files.now in
    let asked = option_copied c.args.question in
    let form = c.args.form in
    record {
      kept = refused (alerts_promise files asked form) fault c.from_residual.result refl c.from_residual.ensures.1
          (λ remembered. first_of_more (world_stages files) (last_stage files asked)
          fault.place (refusal_of fault) (c.in_err-world.ensures.first remembered));
    }

pub returns-in_err-question : goal.returns-in_err-question
returns-in_err-question g c =
    let fault = c.in_err-question.field-0.0 in
    let files = c.args.files.now in
    let asked = option_copied c.args.question in
    let form = c.args.form in
    let world = c.in_ok-world.world in
    let accepts = c.in_ok-world.ensures.accepts in
    record {
      kept = refused (alerts_promise files asked form) fault c.from_residual-in_err-question.result refl
          c.from_residual-in_err-question.ensures.1
          (λ remembered.
          let told = c.in_err-question.ensures.refused remembered in
          let why : QuestionRefusedFor world.config (asked_text asked) fault.kind =
          rw (← c.config.ensures.config) told.1.0 in
          first_behind_world files world (last_stage files asked) fault.place (refusal_of fault)
          accepts (inl (
            told.0,
            (world.config, accepts.accepts_files.says_config, why, told.1.1),
          )));
    }

pub returns : goal.returns
returns g c =
    let files = c.args.files.now in
    let asked = option_copied c.args.question in
    let form = c.args.form in
    let world = c.in_ok-world.world in
    let question = question_view c.in_ok-question.question in
    let reads : ReadsQuestion world.config (asked_text asked) question =
    rw (← c.config.ensures.config) c.in_ok-question.ensures.reads in
    record {
      kept = written (alerts_promise files asked form) tt _ c.put_str.result
          c.answer_of_write.result
          (record {
            world = world;
            question = question;
            accepts = c.in_ok-world.ensures.accepts;
            reads = reads;
            report = rw c.as_str.ensures.value c.in-Ok.ensures;
          })
          (nothing_told c.put_str.result) c.put_str.ensures.written
          c.answer_of_write.ensures.answer;
    }
