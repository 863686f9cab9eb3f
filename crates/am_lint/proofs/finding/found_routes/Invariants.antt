use Rattle.std.proofs.Common.{◌≡◌, take, None}
use Rattle.std.specs.List.{AllByRecursion, AllZip}
use Rattle.am_config.specs.ConfigView.{config_view}
use Rattle.am_config.specs.RoutePaths.{all_routes}
use Rattle.am_lint.specs.FoundView.{IsFoundIn}
use Rattle.am_lint.proofs.finding.found_routes.Given as goal

-- the routes so far are found
abbrev pub invariant-loop-route : goal.invariant-loop-route
invariant-loop-route l = record {
  found : AllZip (IsFoundIn l.space (config_view l.config))
      (take l.route-index (all_routes (config_view l.config))) l.found.items;
  once : AllByRecursion (λ route. route.every ≡ None) l.found.items;
}
