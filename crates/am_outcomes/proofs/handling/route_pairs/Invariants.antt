use Rattle.std.proofs.Common.{◌≡◌, ◌++◌, drop}
use Rattle.am_config.specs.ConfigView.{config_view}
use Rattle.am_outcomes.specs.Handling.{route_pairs}
use Rattle.am_outcomes.specs.OutcomesView.{pairs_view, routes_view}
use Rattle.am_outcomes.proofs.handling.route_pairs.Given as goal

-- the pairs so far, and those of the old routes and the new ones that are left, are all pairs
abbrev pub invariant-loop-route : goal.invariant-loop-route
invariant-loop-route l =
    pairs_view l.pairs.items
    ++ route_pairs (config_view l.old) (config_view l.new) (routes_view (drop l.route-index l.before))
    (routes_view l.left.items)
    ≡ route_pairs (config_view l.old) (config_view l.new) (routes_view l.before)
    (routes_view l.after)
