use Rattle.std.proofs.Common.{◌≡◌, ◌++◌, ℕ, drop}
use Rattle.am_config.specs.ConfigView.{config_view}
use Rattle.am_alerts.specs.MutingRoutes.{intervals_among, intervals_at}
use Rattle.am_alerts.specs.RouteEnds.{ends_of}
use Rattle.am_alerts.proofs.intervals.muting_routes.Given as goal

-- the time intervals so far, and then those of the routes that are left, are those of all routes
abbrev pub invariant-loop-ends : goal.invariant-loop-ends
invariant-loop-ends l =
    (i : ℕ) → intervals_at l.muting.items i
    ++ intervals_among (config_view l.config) (ends_of (drop l.ends-index l.rows) i)
    ≡ intervals_among (config_view l.config) (ends_of l.rows i)
