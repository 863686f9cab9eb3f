use Rattle.std.proofs.Common.{drop}
use Rattle.std.specs.List.{flat_map, enumerate_from}
use Rattle.am_asked.specs.Placed.{placed_in_list, placed_in_lists}
use Rattle.am_asked.proofs.PlacedSteps.{IsOnTheWay}
use Rattle.am_asked.proofs.visiting.visit_lists.Given as goal

-- the visitor so far, with the matchers that are left, gives the visitor after all matchers
abbrev pub invariant-loop-i : goal.invariant-loop-i
invariant-loop-i g l =
    IsOnTheWay g.V.Visitor.after l.fn.visitor (placed_in_lists l.lists) l.visitor
    (flat_map placed_in_list (enumerate_from l.i (drop l.i l.lists)))
