use Rattle.std.proofs.Common.{◌≡◌, ◌++◌, drop, false, get_or}
use Rattle.am_eval.specs.Silencing.{positions_where}
use Rattle.am_firing.proofs.going.positions_marked.Given as goal

-- the positions so far, and those among the rows that are left, are all positions
abbrev pub invariant-loop-i : goal.invariant-loop-i
invariant-loop-i l =
    l.found.items
    ++ positions_where (λ row. get_or row.items l.column false) l.i (drop l.i l.rows)
    ≡ positions_where (λ row. get_or row.items l.column false) 0 l.rows
