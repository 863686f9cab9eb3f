use Rattle.std.proofs.Common.{◌≡◌, ◌++◌, drop}
use Rattle.std.specs.List.{filter_map}
use Rattle.am_config.specs.ConfigView.{config_view}
use Rattle.am_eval.specs.Routing.{receiver_at}
use Rattle.am_alerts.specs.RouteEnds.{ends_of}
use Rattle.am_alerts.proofs.outcomes.receivers_of.Given as goal

-- the receivers so far, and those of the routes that are left, are all receivers
abbrev pub invariant-loop-row : goal.invariant-loop-row
invariant-loop-row l =
    l.found.items
    ++ filter_map (receiver_at (config_view l.config)) (ends_of (drop l.row-index l.rows) l.alert)
    ≡ filter_map (receiver_at (config_view l.config)) (ends_of l.rows l.alert)
