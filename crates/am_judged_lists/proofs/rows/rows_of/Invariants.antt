use Rattle.std.proofs.Common.{◌≡◌, take, map}
use Rattle.am_labels.specs.Row.{row_of}
use Rattle.am_judged_lists.proofs.rows.rows_of.Given as goal

abbrev pub invariant-loop-i : goal.invariant-loop-i
invariant-loop-i l = l.rows.items ≡ map (row_of l.universe) (take l.i l.matchers)
