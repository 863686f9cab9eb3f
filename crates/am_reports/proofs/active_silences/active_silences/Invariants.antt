use Rattle.std.proofs.Common.{◌≡◌, ◌++◌, drop}
use Rattle.std.specs.List.{enumerate_from}
use Rattle.am_outcomes.specs.Configurations.{silences_view}
use Rattle.am_reports.specs.ActiveSilences.{active_silences}
use Rattle.am_reports.proofs.ActiveSilences.{active_among}
use Rattle.am_reports.proofs.active_silences.active_silences.Given as goal

-- those that are found, and then the active ones among those that are left, are all active ones
abbrev pub invariant-loop-position : goal.invariant-loop-position
invariant-loop-position l =
    silences_view l.found.items
    ++ active_among l.world.instant (enumerate_from l.position (drop l.position l.world.silences))
    ≡ active_silences l.world
