-- A fault of a file is not one of writing, so only its place changes.
use Rattle.std.proofs.Common.{◌≡◌, ◌≢◌, sym, ◌∙◌, subst}
use Rattle.am_universe.specs.declared.kind.Kind.TheVariants as kinds
use Rattle.am_universe.specs.declared.place.Place.TheVariants as places
use Rattle.am_json.specs.Reading.{refusal_of}
use Rattle.am_config.specs.ConfigForm.{ConfigFileRefusedFor}
use Rattle.am_reports.proofs.compare_inputs.read_config_at.Goals as goal

pub returns-in-Err-clause-refused : goal.returns-in-Err-clause-refused
returns-in-Err-clause-refused c = λ remembered.
    let fault = c.in-Err.fault in
    let other : fault.kind ≢ kinds.Memory = λ memory. remembered (c.within.ensures.kind ∙ memory) in
    let first = c.in-Err.ensures.first other in
    let unwritten : fault.kind ≢ kinds.Write = λ writing.
    let both : places.Config ≡ places.Output = sym first.0 ∙ (fault.placed.write writing).0 in cc in
    let part = c.within.ensures.part other unwritten in
    let same : refusal_of fault ≡ refusal_of c.within.result =
    λ i. record { kind = sym c.within.ensures.kind i; pointer = sym part.1 i } in
    (part.0, subst (ConfigFileRefusedFor c.args.bytes.now) same first.1)
