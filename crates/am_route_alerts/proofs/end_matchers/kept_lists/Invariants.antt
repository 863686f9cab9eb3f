use Rattle.std.proofs.Common.{take, map}
use Rattle.am_lint.specs.Table.{table_space}
use Rattle.am_route_alerts.specs.KeptLists.{AreKeptLists}
use Rattle.am_route_alerts.proofs.end_matchers.kept_lists.Given as goal

-- the lists of the literals so far
abbrev pub invariant-loop-i : goal.invariant-loop-i
invariant-loop-i l =
    AreKeptLists (table_space l.table) l.cubes l.given (take l.i l.literals)
    (map (λ list. map (λ m. m.now) list.items) l.lists.items)
