use Rattle.std.proofs.Common.{sym}
use Rattle.std.proofs.lemmas.Bool.{false≢true}
use Rattle.serde_json.specs.View.{view}
use Rattle.am_json.proofs.Values.{json_of_text, json_of_none}
use Rattle.am_alerts.proofs.silence_ids.value_of.Goals as goal

pub returns-in-Ok : goal.returns-in-Ok
returns-in-Ok c =
    sym (json_of_text c.args.bytes.now (view c.in-Ok.value) c.in-Ok.ensures.ok.0
    c.in-Ok.ensures.ok.1)

pub returns-else-is_memory : goal.returns-else-is_memory
returns-else-is_memory c =
    sym (json_of_none c.args.bytes.now
    (c.in-Err.ensures.err (λ memory. false≢true (c.if-is_memory.ensures.1 memory))))
