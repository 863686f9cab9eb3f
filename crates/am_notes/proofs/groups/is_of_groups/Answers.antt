-- Whether the value of a file, if there is one, is a list of groups.
use Rattle.std.proofs.Common.{refl}
use Rattle.std.proofs.lemmas.Bool.{false≢true}
use Rattle.serde_json.specs.View.{view}
use Rattle.am_json.proofs.Values.{json_of_text, json_of_none}
use Rattle.am_notes.proofs.groups.is_of_groups.Goals as goal

pub returns-in-Ok : goal.returns-in-Ok
returns-in-Ok c =
    let ok = c.in-Ok.ensures.ok in
    rw (json_of_text c.args.bytes.now (view c.in-Ok.value) ok.0 ok.1) c.begins_with_group.ensures

pub returns-else-is_memory : goal.returns-else-is_memory
returns-else-is_memory c =
    let none =
    json_of_none c.args.bytes.now
    (c.in-Err.ensures.err (λ memory. false≢true (c.if-is_memory.ensures.1 memory))) in
    rw none refl
