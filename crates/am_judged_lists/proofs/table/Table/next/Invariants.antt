use Rattle.std.proofs.Common.{◌*◌, ◌≤◌, ◌/◌}
use Rattle.am_judged_lists.specs.declared.list_set.TheConstants.{ROOM}
use Rattle.am_judged_lists.specs.Certainty.{passes}
use Rattle.am_judged_lists.specs.Cube.{verdict_at}
use Rattle.am_judged_lists.specs.Places.{NoneBetween}
use Rattle.am_judged_lists.proofs.table.Table.next.Given as goal

-- nothing passes in the blocks so far
abbrev pub invariant-loop-i : goal.invariant-loop-i
invariant-loop-i l =
    (l.fn.from / ROOM ≤ l.i)
    × NoneBetween (λ cube. passes l.fn.certainty (verdict_at cube l.prefix)) l.self l.fn.from (l.i * ROOM)
