-- Reading stops at the first fault: what was read before is accepted.
use Rattle.std.proofs.Common.{inl, arith}
use Rattle.std.proofs.lemmas.Grind.{common_steps}
use Rattle.am_json.specs.Reading.{refusal_of}
use Rattle.am_config.specs.ConfigView.{config_view}
use Rattle.am_files.specs.Faults.{IsFirstFault}
use Rattle.am_files.specs.AcceptedWorld.{pair_stages, timeless_stages}
use Rattle.am_files.proofs.FirstFaults.{first_of_more, behind_read, handed_on, if_failed}
use Rattle.am_files.proofs.world_inputs.read_timeless_world.Goals as goal

pub returns-in_err-read-clause-first : goal.returns-in_err-read-clause-first
returns-in_err-read-clause-first c = grind (arith, common_steps, handed_on, first_of_more)

pub returns-clause-first : goal.returns-clause-first
returns-clause-first c =
    let files = c.args.files.now in
    let read = c.in_ok-read.read in
    if_failed _ (IsFirstFault (timeless_stages files)) c.new.result
    (λ fault refused remembered.
    let told = refused remembered in
    behind_read files (config_view read.config) read.silences read.alerts
    (pair_stages files) fault.place (refusal_of fault)
    c.in_ok-read.ensures.config c.in_ok-read.ensures.silences c.in_ok-read.ensures.alerts
    (inl (
      told.0,
      record {
        configuration = config_view read.config;
        says_config = c.in_ok-read.ensures.config;
        alerts = read.alerts;
        says_alerts = c.in_ok-read.ensures.alerts;
        many = told.1.1;
        refusal = told.1.0;
      },
    )))
    c.new.ensures.limit
