use Rattle.std.proofs.Common.{◌≡◌, [], ◌∷◌}
use Rattle.am_universe.specs.declared.kind.Kind.TheVariants as kinds
use Rattle.am_files.specs.Faults.{set_stage}
use Rattle.am_files.proofs.AcceptedInputs.{world_accepted, by_stage}
use Rattle.am_files.proofs.SetRefusals.{set_accepted}
use Rattle.am_commands.proofs.laws.accepted_inputs_of_explain_have_no_fault.Goals as goal

pub returns : goal.returns
returns _ = record {
  pattern = λ inputs words w s place r accepts spelled.
      world_accepted (r.kind ≡ kinds.Pattern) inputs w (set_stage words ∷ []) place r accepts
      (λ pattern. pattern)
      (by_stage (r.kind ≡ kinds.Pattern) (set_stage words) [] place r
      (λ refused. absurd (set_accepted words s r.kind spelled refused.0)) (λ none. absurd none));
}
