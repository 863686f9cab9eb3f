-- Reading stops at the first fault: what was read before is accepted.
use Rattle.std.proofs.Common.{arith, ◌≢◌, inl, inr, ◌∙◌, List, [], ◌∷◌}
use Rattle.am_universe.specs.declared.kind.Kind.TheVariants as kinds
use Rattle.am_json.specs.Reading.{refusal_of}
use Rattle.am_eval.specs.QuestionView.{question_view}
use Rattle.am_questions.specs.QuestionText.{QuestionRefusedFor, ReadsQuestion}
use Rattle.am_files.specs.Faults.{Stage, IsFirstFault}
use Rattle.am_questions.specs.QuestionStages.{question_stage, token_stage}
use Rattle.am_files.specs.Files.{config_of}
use Rattle.am_questions.specs.Inputs.{Inputs, inputs_of, inputs_fingerprint, ask_stages}
use Rattle.am_files.specs.AcceptedWorld.{world_stages}
use Rattle.am_files.proofs.FirstFaults.{first_of_more, first_behind_world, handed_on}
use Rattle.am_questions.proofs.OneInputs.{asked_is_start}
use Rattle.am_questions.proofs.PartLemmas.{parts_unwritten}
use Rattle.am_questions.proofs.inputs.read_inputs.Goals as goal

-- the stages after those of the files
abbrev last_stages : Inputs → List Stage
last_stages inputs =
    question_stage (config_of inputs.files.config) inputs.question
    ∷ token_stage inputs.universe (inputs_fingerprint inputs) inputs.after ∷ []

pub returns-in_err-world-clause-first : goal.returns-in_err-world-clause-first
returns-in_err-world-clause-first c =
    let fault = c.in_err-world.field-0.0 in
    let inputs = inputs_of c.args.universe.now c.args.files.now c.args.question.now
    c.args.page.now in
    handed_on (IsFirstFault (ask_stages inputs)) fault c.from_residual-in_err-world.result
    c.from_residual-in_err-world.ensures.1
    (λ remembered. inr (
      (c.in_ok-space.space, c.in_ok-space.ensures.says),
      first_of_more (world_stages inputs.files) (last_stages inputs) fault.place
          (refusal_of fault) (c.in_err-world.ensures.first remembered),
    ))

pub returns-in-Err-clause-first : goal.returns-in-Err-clause-first
returns-in-Err-clause-first c = λ remembered.
    let inputs = inputs_of c.args.universe.now c.args.files.now c.args.question.now
    c.args.page.now in
    let world = c.in_ok-world.world in
    let accepts = c.in_ok-world.ensures.accepts in
    let given : c.in-Err.kind ≢ kinds.Memory = λ e. remembered (c.at.ensures.kind ∙ e) in
    let told = c.in-Err.ensures.refused given in
    let unwritten : c.in-Err.kind ≢ kinds.Write = grind (arith, told, parts_unwritten) in
    let refused : QuestionRefusedFor world.config inputs.question c.at.result.kind =
    rw (c.at.ensures.kind, ← c.config.ensures.config) told in
    inr (
      (c.in_ok-space.space, c.in_ok-space.ensures.says),
      first_behind_world inputs.files world (last_stages inputs) c.at.result.place
          (refusal_of c.at.result) accepts (inl (
            c.at.ensures.place given unwritten,
            (world.config, accepts.accepts_files.says_config, refused, c.at.ensures.pointer),
          )),
    )

pub returns-in_err-start-clause-first : goal.returns-in_err-start-clause-first
returns-in_err-start-clause-first c =
    let fault = c.in_err-start.field-0.0 in
    let inputs = inputs_of c.args.universe.now c.args.files.now c.args.question.now
    c.args.page.now in
    let world = c.in_ok-world.world in
    let accepts = c.in_ok-world.ensures.accepts in
    let reads : ReadsQuestion world.config inputs.question (question_view c.in-Ok.question) =
    rw (← c.config.ensures.config) c.in-Ok.ensures.read in
    handed_on (IsFirstFault (ask_stages inputs)) fault c.from_residual-in_err-start.result
    c.from_residual-in_err-start.ensures.1
    (λ remembered.
    let refused = rw c.fingerprint-fingerprint.ensures.fingerprint at c.in_err-start.ensures.refused remembered in
    inr (
      (c.in_ok-space.space, c.in_ok-space.ensures.says),
      first_behind_world inputs.files world (last_stages inputs) fault.place (refusal_of fault)
          accepts (inr (
            (world.config, accepts.accepts_files.says_config, question_view c.in-Ok.question, reads),
            inl (
              refused.0,
              (c.in_ok-space.space, c.in_ok-space.ensures.says, refused.1.0, refused.1.1),
            ),
          )),
    ))

pub returns-clause-accepts : goal.returns-clause-accepts
returns-clause-accepts c = record {
  says_universe = c.in_ok-space.ensures.says;
  accepts_world = c.in_ok-world.ensures.accepts;
  reads = rw (← c.config.ensures.config) c.in-Ok.ensures.read;
  starts = rw (← c.fingerprint-fingerprint.ensures.fingerprint) c.in_ok-start.ensures.starts;
}

pub returns-clause-start : goal.returns-clause-start
returns-clause-start c = asked_is_start _ _ _ _ c.in_ok-start.ensures.starts
