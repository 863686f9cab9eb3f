-- If the files before one are accepted, the first fault is that of this one.
use Rattle.std.proofs.Common.{inl, inr, subst}
use Rattle.am_universe.specs.declared.fault.Fault.{Fault}
use Rattle.am_config.specs.ConfigView.{whole_config_view}
use Rattle.am_json.specs.Reading.{refusal_of}
use Rattle.am_files.specs.Faults.{IsFirstFault, IsFirstFaultOfCall}
use Rattle.am_files.proofs.FirstFaults.{handed_on}
use Rattle.am_reports.specs.CompareInputs.{CompareInputs, compare_input_stages}
use Rattle.am_reports.proofs.compare_inputs.read_compared.Goals as goal

abbrev IsFirst : CompareInputs → Fault → Type 0
IsFirst inputs fault =
    IsFirstFaultOfCall (compare_input_stages inputs) fault.place (refusal_of fault)

pub returns-in_err-new-clause-first : goal.returns-in_err-new-clause-first
returns-in_err-new-clause-first c =
    let fault = c.in_err-new.field-0.0 in
    handed_on (IsFirstFault (compare_input_stages c.args.inputs.now)) fault
    c.from_residual-in_err-new.result c.from_residual-in_err-new.ensures.1
    (λ remembered. subst (λ (i : CompareInputs). IsFirst i fault) c.inputs.view_is
    (inr (
      (c.in_ok-space.space, c.in_ok-space.ensures.says),
      inr (
        (whole_config_view c.in_ok-old.old, c.in_ok-old.ensures.says),
        inl (c.in_err-new.ensures.refused remembered),
      ),
    )))

pub returns-in_err-rules-clause-first : goal.returns-in_err-rules-clause-first
returns-in_err-rules-clause-first c =
    let fault = c.in_err-rules.field-0.0 in
    handed_on (IsFirstFault (compare_input_stages c.args.inputs.now)) fault
    c.from_residual-in_err-rules.result c.from_residual-in_err-rules.ensures.1
    (λ remembered. subst (λ (i : CompareInputs). IsFirst i fault) c.inputs.view_is
    (inr (
      (c.in_ok-space.space, c.in_ok-space.ensures.says),
      inr (
        (whole_config_view c.in_ok-old.old, c.in_ok-old.ensures.says),
        inr (
          (whole_config_view c.in_ok-new.new, c.in_ok-new.ensures.says),
          inl (c.in_err-rules.ensures.first remembered),
        ),
      ),
    )))
