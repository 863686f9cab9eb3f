use Rattle.std.proofs.Common.{drop, map}
use Rattle.std.specs.List.{flat_map, enumerate_from}
use Rattle.am_asked.specs.Placed.{placed_in_list, placed_in_lists}
use Rattle.am_complete.specs.AskedLabel.{with_asked}
use Rattle.am_asked.proofs.PlacedSteps.{IsOnTheWay}
use Rattle.am_asked.proofs.asked.add_lists.Given as goal

-- the labels so far, with the matchers that are left, give the labels of all matchers
abbrev pub invariant-loop-i : goal.invariant-loop-i
invariant-loop-i l =
    IsOnTheWay with_asked l.fn.gathering (placed_in_lists (map (λ list. list.now) l.lists)) l.gathering
    (flat_map placed_in_list (enumerate_from l.i (map (λ list. list.now) (drop l.i l.lists))))
