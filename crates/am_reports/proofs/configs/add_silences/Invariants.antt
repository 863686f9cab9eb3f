use Rattle.std.proofs.Common.{drop}
use Rattle.am_outcomes.specs.Configurations.{silences_view}
use Rattle.am_complete.specs.AskedLabel.{with_asked}
use Rattle.am_asked.proofs.PlacedSteps.{IsOnTheWay}
use Rattle.am_reports.specs.RoutingLabels.{placed_in_active}
use Rattle.am_reports.proofs.configs.add_silences.Given as goal

-- the labels so far, with the matchers that are left, give the labels of all matchers
abbrev pub invariant-loop-silence : goal.invariant-loop-silence
invariant-loop-silence l =
    IsOnTheWay with_asked l.fn.gathering (placed_in_active (silences_view l.silences)) l.gathering
    (placed_in_active (silences_view (drop l.silence-index l.silences)))
