-- If the universe file is accepted, the first fault is that of the world; and if that is accepted
-- too, it is that of the rules.
use Rattle.std.proofs.Common.{[], ◌∷◌, inl, inr, subst}
use Rattle.std.specs.Prelude.{option_copied}
use Rattle.am_universe.specs.declared.fault.Fault.{Fault}
use Rattle.am_json.specs.Reading.{refusal_of}
use Rattle.am_files.specs.AcceptedWorld.{world_stages}
use Rattle.am_files.specs.Faults.{IsFirstFault, IsFirstFaultOfCall}
use Rattle.am_files.proofs.FirstFaults.{first_behind_world, first_of_more, handed_on}
use Rattle.am_reports.specs.RulesFile.{rules_stage}
use Rattle.am_reports.specs.WorldInputs.{WorldInputs, world_input_stages}
use Rattle.am_reports.proofs.world_inputs.read_world_inputs.Goals as goal

-- a fault behind the universe file
abbrev IsFirst : WorldInputs → Fault → Type 0
IsFirst inputs fault = IsFirstFaultOfCall (world_input_stages inputs) fault.place (refusal_of fault)

pub returns-in_err-world-clause-first : goal.returns-in_err-world-clause-first
returns-in_err-world-clause-first c =
    let fault = c.in_err-world.field-0.0 in
    let inside = c.inputs.inside in
    handed_on (IsFirstFault (world_input_stages c.args.inputs.now)) fault
    c.from_residual-in_err-world.result c.from_residual-in_err-world.ensures.1
    (λ remembered. subst (λ (i : WorldInputs). IsFirst i fault) c.inputs.view_is
    (inr (
      (c.in_ok-space.space, c.in_ok-space.ensures.says),
      first_of_more (world_stages inside.files.now)
          (rules_stage (option_copied inside.rules) ∷ []) fault.place (refusal_of fault)
          (c.in_err-world.ensures.first remembered),
    )))

pub returns-in_err-rules-clause-first : goal.returns-in_err-rules-clause-first
returns-in_err-rules-clause-first c =
    let fault = c.in_err-rules.field-0.0 in
    let inside = c.inputs.inside in
    handed_on (IsFirstFault (world_input_stages c.args.inputs.now)) fault
    c.from_residual-in_err-rules.result c.from_residual-in_err-rules.ensures.1
    (λ remembered. subst (λ (i : WorldInputs). IsFirst i fault) c.inputs.view_is
    (inr (
      (c.in_ok-space.space, c.in_ok-space.ensures.says),
      first_behind_world inside.files.now c.in_ok-world.world
          (rules_stage (option_copied inside.rules) ∷ []) fault.place (refusal_of fault)
          c.in_ok-world.ensures.accepts (inl (c.in_err-rules.ensures.first remembered)),
    )))
