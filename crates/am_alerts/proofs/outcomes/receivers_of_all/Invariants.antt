use Rattle.std.proofs.Common.{◌≡◌, map}
use Rattle.std.specs.List.{filter_map, range_with_len}
use Rattle.am_config.specs.ConfigView.{config_view}
use Rattle.am_eval.specs.Routing.{receiver_at}
use Rattle.am_alerts.specs.RouteEnds.{ends_of}
use Rattle.am_alerts.proofs.outcomes.receivers_of_all.Given as goal

abbrev pub invariant-loop-alert : goal.invariant-loop-alert
invariant-loop-alert l =
    map (λ v. v.items) l.found.items
    ≡ map (λ i. filter_map (receiver_at (config_view l.config)) (ends_of l.rows i))
    (range_with_len 0 l.alert)
