use Rattle.std.proofs.Common.{◌≡◌, ◌++◌, map, drop}
use Rattle.am_firing.specs.Going.{marks_of}
use Rattle.am_firing.proofs.going.marks_of_alerts.Given as goal

-- the marks of the alerts so far, and those of the alerts that are left, are all marks
abbrev pub invariant-loop-i : goal.invariant-loop-i
invariant-loop-i l =
    map (λ marks. marks.items) l.found.items
    ++ map (marks_of l.world.config) (drop l.i l.world.alerts)
    ≡ map (marks_of l.world.config) l.world.alerts
