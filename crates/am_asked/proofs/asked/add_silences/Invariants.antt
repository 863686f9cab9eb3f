use Rattle.std.proofs.Common.{drop}
use Rattle.std.specs.List.{flat_map, enumerate_from}
use Rattle.am_asked.specs.Placed.{placed_in_silence, placed_in_silences}
use Rattle.am_complete.specs.AskedLabel.{with_asked}
use Rattle.am_asked.proofs.PlacedSteps.{IsOnTheWay}
use Rattle.am_asked.proofs.asked.add_silences.Given as goal

-- the labels so far, with the matchers that are left, give the labels of all matchers
abbrev pub invariant-loop-i : goal.invariant-loop-i
invariant-loop-i l =
    IsOnTheWay with_asked l.fn.gathering (placed_in_silences l.silences) l.gathering
    (flat_map placed_in_silence (enumerate_from l.i (drop l.i l.silences)))
