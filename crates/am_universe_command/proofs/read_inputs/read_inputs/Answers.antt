-- The fault at which reading stops is the first one: what was read before it is accepted.
use Rattle.std.proofs.Common.{inl, inr, ◌∷◌, [], subst}
use Rattle.am_json.specs.Reading.{refusal_of}
use Rattle.am_files.specs.Faults.{IsFirstFault, IsFirstFaultOfCall}
use Rattle.am_files.specs.AcceptedWorld.{AcceptsFiles, timeless_stages}
use Rattle.am_files.specs.Files.{config_of, SaysUniverseIfAny}
use Rattle.am_files.proofs.FirstFaults.{first_of_more, first_behind_timeless, handed_on}
use Rattle.am_universe_command.specs.UniverseInputs.{UniverseInputs}
use Rattle.am_universe_command.specs.UniverseInputs.{QuestionsRefusedFor, questions_stage}
use Rattle.am_universe_command.specs.UniverseInputs.{universe_input_stages}
use Rattle.am_universe_command.proofs.read_inputs.read_inputs.Goals as goal

pub returns-in_err-world-clause-first : goal.returns-in_err-world-clause-first
returns-in_err-world-clause-first c =
    let inputs = c.args.inputs.now in
    let fault = c.in_err-world.field-0.0 in
    handed_on (IsFirstFault (universe_input_stages inputs)) fault
    c.from_residual-in_err-world.result c.from_residual-in_err-world.ensures.1
    (λ remembered. inr (
      (
        c.in_ok-space.space,
        subst (λ (i : UniverseInputs). SaysUniverseIfAny i.universe c.in_ok-space.space)
            c.inputs.view_is c.in_ok-space.ensures.says,
      ),
      first_of_more (timeless_stages inputs.files)
          (questions_stage (config_of inputs.files.config) inputs.questions ∷ []) fault.place
          (refusal_of fault)
          (subst (λ (i : UniverseInputs).
          IsFirstFaultOfCall (timeless_stages i.files) fault.place (refusal_of fault))
          c.inputs.view_is (c.in_err-world.ensures.first remembered)),
    ))

pub returns-in_err-questions-clause-first : goal.returns-in_err-questions-clause-first
returns-in_err-questions-clause-first c =
    let inputs = c.args.inputs.now in
    let fault = c.in_err-questions.field-0.0 in
    let world = c.in_ok-world.world in
    let accepts = subst (λ (i : UniverseInputs). AcceptsFiles i.files world) c.inputs.view_is
    c.in_ok-world.ensures.accepts in
    handed_on (IsFirstFault (universe_input_stages inputs)) fault
    c.from_residual-in_err-questions.result c.from_residual-in_err-questions.ensures.1
    (λ remembered.
    let told = c.in_err-questions.ensures.refused remembered in
    inr (
      (
        c.in_ok-space.space,
        subst (λ (i : UniverseInputs). SaysUniverseIfAny i.universe c.in_ok-space.space)
            c.inputs.view_is c.in_ok-space.ensures.says,
      ),
      first_behind_timeless inputs.files world
          (questions_stage (config_of inputs.files.config) inputs.questions ∷ []) fault.place
          (refusal_of fault) accepts (inl (
            told.0,
            (
              world.config,
              accepts.says_config,
              subst (λ (i : UniverseInputs).
                  QuestionsRefusedFor world.config i.questions (refusal_of fault)) c.inputs.view_is
                  (rw c.config.ensures.config at told.1),
            ),
          )),
    ))
