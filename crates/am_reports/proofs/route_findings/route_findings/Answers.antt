-- If no universe is made for ordinary alerts, that is one of the two reasons.
use Rattle.std.proofs.Common.{◌≢◌, inr}
use Rattle.am_universe.specs.declared.kind.Kind.TheVariants as kinds
use Rattle.am_json.specs.Reading.{refusal_of}
use Rattle.am_config.specs.ConfigView.{config_view}
use Rattle.am_files.proofs.FirstFaults.{handed_on}
use Rattle.am_reports.specs.Made.{IsRoutesRefusal}
use Rattle.am_reports.proofs.route_findings.route_findings.Goals as goal

pub returns-in_err-ordinary-clause-refused : goal.returns-in_err-ordinary-clause-refused
returns-in_err-ordinary-clause-refused c =
    let lists = c.args.space.now.impossible in
    let config = config_view c.args.config.now in
    let fault = c.in_err-ordinary.field-0.0 in
    handed_on (λ f. f.kind ≢ kinds.Memory
    → IsRoutesRefusal c.args.alphabet lists config f.place (refusal_of f)) fault
    c.from_residual-in_err-ordinary.result c.from_residual-in_err-ordinary.ensures.1
    (λ remembered. inr (c.in_err-ordinary.ensures.refused remembered))
