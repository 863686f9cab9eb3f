use Rattle.std.proofs.Common.{take}
use Rattle.am_lint.specs.Literals.{AddsPart}
use Rattle.am_lint.proofs.literals.add_part.Given as goal

-- the literals of the routes so far are added
abbrev pub invariant-loop-i : goal.invariant-loop-i
invariant-loop-i l =
    AddsPart l.table.routes.items l.part l.path (take l.i l.table.routes.items)
    l.initial.literals.items l.literals.items
