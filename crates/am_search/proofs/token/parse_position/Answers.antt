use Rattle.std.proofs.Common.{sym, arith, rules}
use Rattle.am_search.proofs.Positions.{parsed, not_parsed}
use Rattle.am_search.proofs.token.parse_position.Goals as goal

pub returns-in_default : goal.returns-in_default
returns-in_default c =
    λ n small is. not_parsed 16 n c.in_default.field-0 c.parse.result (omega arith) (omega arith) (rw (sym is) at c.parse.ensures.value.0) c.in_default.is

pub returns-else-eq : goal.returns-else-eq
returns-else-eq c = search (rules, parsed)
