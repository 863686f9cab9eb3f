use Rattle.std.proofs.Common.{◌≡◌, ◌++◌, map, drop}
use Rattle.am_config.specs.RouteView.{names_of}
use Rattle.am_firing.specs.Deciding.{texts_of, values_of}
use Rattle.am_firing.proofs.wide.values_of_alerts.Given as goal

-- the values of the alerts so far, and those of the alerts that are left, are all values
abbrev pub invariant-loop-i : goal.invariant-loop-i
invariant-loop-i l =
    map texts_of l.found.items ++ map (values_of (names_of l.names)) (drop l.i l.alerts)
    ≡ map (values_of (names_of l.names)) l.alerts
