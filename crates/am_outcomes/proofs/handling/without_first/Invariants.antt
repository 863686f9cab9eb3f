use Rattle.std.proofs.Common.{◌≡◌, ◌++◌, cond, drop}
use Rattle.am_config.specs.ConfigView.{config_view}
use Rattle.am_outcomes.specs.Handling.{has_receiver, without_first}
use Rattle.am_outcomes.specs.OutcomesView.{routes_view}
use Rattle.am_outcomes.proofs.handling.without_first.Given as goal

-- what is left so far, and then the routes that are not looked at yet, all of them or without the
-- first
abbrev pub invariant-loop-route : goal.invariant-loop-route
invariant-loop-route l =
    routes_view l.left.items ++ cond l.is_passed (routes_view (drop l.route-index l.routes))
    (without_first (has_receiver (config_view l.config) l.name)
    (routes_view (drop l.route-index l.routes)))
    ≡ without_first (has_receiver (config_view l.config) l.name) (routes_view l.routes)
