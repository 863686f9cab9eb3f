use Rattle.std.proofs.Common.{◌≡◌, [], ◌∷◌}
use Rattle.am_universe.specs.declared.kind.Kind.TheVariants as kinds
use Rattle.am_files.specs.Faults.{universe_stage, config_stage}
use Rattle.am_files.proofs.AcceptedInputs.{by_stage, universe_accepted, config_accepted}
use Rattle.am_commands.proofs.laws.accepted_files_have_no_fault.Goals as goal

pub returns : goal.returns
returns _ = record {
  pattern = λ universe_file config_file s c place r accepts.
      by_stage (r.kind ≡ kinds.Pattern) (universe_stage universe_file)
      (config_stage config_file ∷ []) place r
      (λ refused. universe_accepted universe_file s r accepts.says_universe refused)
      (by_stage (r.kind ≡ kinds.Pattern) (config_stage config_file) [] place r
      (λ refused. config_accepted config_file c r accepts.says_config refused) (λ none. absurd none));
}
