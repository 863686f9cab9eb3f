-- Routes that have time intervals, as they are stored.
use Rattle.std.specs.Prelude.{◌≡◌, ℕ, List, [], slice_get, Some, if◌then◌else◌}
use Rattle.std.specs.List.{filter_map, flat_map}
use Rattle.am_universe.specs.LabelSet.{LabelMap}
use Rattle.am_config.specs.ConfigFile.{Configuration}
use Rattle.am_config.specs.Path.{route_at}
use Rattle.am_config.specs.RouteView.{route_view}
use Rattle.am_eval.specs.World.{World}
use Rattle.am_report_texts.specs.EachOnce.{each_once}
use Rattle.am_alerts.specs.declared.intervals.MutingRoute.{MutingRoute}
use Rattle.am_alerts.specs.AlertLabels.{flag}
use Rattle.am_alerts.specs.Intervals.{intervals, route_intervals}

-- The time intervals of the routes at some paths.
abbrev pub intervals_among : Configuration → List (List ℕ) → List (List ℕ)
intervals_among c paths = flat_map route_intervals (filter_map (route_at c.root) paths)

-- The time intervals of a route, if the alert at a position ends there; and those of all routes.
abbrev pub intervals_if_end : ℕ → MutingRoute → List (List ℕ)
intervals_if_end i m =
    if flag m.ends.now.alerts.items i then route_intervals (route_view m.route.now) else []

abbrev pub intervals_at : List MutingRoute → ℕ → List (List ℕ)
intervals_at muting i = flat_map (intervals_if_end i) muting

-- These routes tell the time intervals of the alert at a position.
abbrev pub TellIntervals : World → List MutingRoute → ℕ → Type 0
TellIntervals w muting i =
    (s : LabelMap) → slice_get w.alerts i ≡ Some s
    → each_once (intervals_at muting i) ≡ intervals s w.config
