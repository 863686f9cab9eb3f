use Rattle.std.proofs.Common.{None, refl, inl}
use Rattle.std.proofs.lemmas.Bool.{false≢true}
use Rattle.serde_json.specs.Data.{null}
use Rattle.serde_json.specs.View.{view}
use Rattle.am_universe.specs.declared.kind.Kind.TheVariants as kinds
use Rattle.am_json.specs.Pointer.{refusal_here}
use Rattle.am_json.proofs.Values.{json_of_text, json_of_none}
use Rattle.am_json.specs.Reading.{accept_or}
use Rattle.am_json.proofs.Readings.{fails_refused}
use Rattle.am_json.proofs.parts.value_of.Goals as goal

pub returns-in-Ok : goal.returns-in-Ok
returns-in-Ok c =
    rw (json_of_text c.args.bytes.now (view c.in-Ok.value) c.in-Ok.ensures.ok.0
    c.in-Ok.ensures.ok.1) refl

pub returns-else-is_memory : goal.returns-else-is_memory
returns-else-is_memory c =
    let none =
    json_of_none c.args.bytes.now
    (c.in-Err.ensures.err (λ memory. false≢true (c.if-is_memory.ensures.1 memory))) in
    rw none (fails_refused c.refused.result
    (accept_or null None (refusal_here kinds.NotJson)) (refusal_here kinds.NotJson)
    c.refused.ensures.refusal (inl refl))
