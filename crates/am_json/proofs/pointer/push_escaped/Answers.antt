use Rattle.std.proofs.Common.{rules}
use Rattle.am_json.proofs.Pointers.{pointer_escape-other}
use Rattle.am_json.proofs.pointer.push_escaped.Goals as goal

pub returns-else-character-eq47 : goal.returns-else-character-eq47
returns-else-character-eq47 c =
    rw (pointer_escape-other c.args.character c.if-character-eq126.false c.if-character-eq47.false)
    (search rules)
