use Rattle.std.proofs.Common.{◌≡◌, drop}
use Rattle.std.specs.List.{find}
use Rattle.am_config.specs.ConfigView.{config_view}
use Rattle.am_outcomes.specs.Handling.{has_receiver}
use Rattle.am_outcomes.specs.OutcomesView.{routes_view}
use Rattle.am_outcomes.proofs.handling.first_with.Given as goal

-- the routes that are left decide
abbrev pub invariant-loop-route : goal.invariant-loop-route
invariant-loop-route l =
    find (has_receiver (config_view l.config) l.name) (routes_view (drop l.route-index l.routes))
    ≡ find (has_receiver (config_view l.config) l.name) (routes_view l.routes)
