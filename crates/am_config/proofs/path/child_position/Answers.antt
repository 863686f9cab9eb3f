use Rattle.std.proofs.Common.{◌≡◌, ◌≤◌, ◌^◌, sym, arith}
use Rattle.am_config.proofs.Numerals.{parsed, not_parsed}
use Rattle.am_config.proofs.path.child_position.Goals as goal

pub returns-then-from-le-MAX_CHILD_POSITION : goal.returns-then-from-le-MAX_CHILD_POSITION
returns-then-from-le-MAX_CHILD_POSITION c =
    λ n is. let same : c.in-Ok.position ≡ n = parsed 16 n c.in-Ok.position c.parse.result
    (rw (sym is) at c.parse.ensures.value.0) c.in-Ok.is in
    (same, omega arith)

pub returns-else-from-le-MAX_CHILD_POSITION : goal.returns-else-from-le-MAX_CHILD_POSITION
returns-else-from-le-MAX_CHILD_POSITION c =
    λ n is. let same : c.in-Ok.position ≡ n = parsed 16 n c.in-Ok.position c.parse.result
    (rw (sym is) at c.parse.ensures.value.0) c.in-Ok.is in
    omega arith

pub returns-in-Err : goal.returns-in-Err
returns-in-Err c =
    λ n is. let large : 2 ^ 16 ≤ n = not_parsed 16 n c.in-Err.field-0 c.parse.result
    (rw (sym is) at c.parse.ensures.value.0) c.in-Err.is in
    omega arith
