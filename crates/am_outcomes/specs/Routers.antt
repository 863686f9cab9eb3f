-- The routes of configurations with their cubes. (This project's own.)
use Rattle.std.specs.Prelude.{List, ⊤}
use Rattle.am_universe.specs.Universe.{Label}
use Rattle.am_config.specs.ConfigFile.{Configuration}
use Rattle.am_config.specs.ConfigView.{config_view}
use Rattle.am_first_sets.specs.RouteCubes.{KnowsRoutes}
use Rattle.am_outcomes.specs.Configurations.{Configurations, One, Pair, Silenced, Ends, Matched}
use Rattle.am_outcomes.specs.Configurations.{silences_view}
use Rattle.am_outcomes.specs.declared.routers.Routed.{Routed}
use Rattle.am_outcomes.specs.declared.routers.Routed.TheVariants as routed_is
use Rattle.am_outcomes.specs.declared.routers.Router.{Router}

-- The configuration, and that the cubes are those of its routes.
abbrev pub router_config : Router → Configuration
router_config router = config_view router.config.now

abbrev pub IsRouterOver : List Label → Router → Type 0
IsRouterOver u router = KnowsRoutes u (router_config router) router.cubes

-- What decides the outcomes, and that each cube is that of its route.
abbrev pub routed_configurations : Routed → Configurations
routed_configurations (routed_is.One router) = One (router_config router)
routed_configurations (routed_is.Pair old new) = Pair (router_config old) (router_config new)
routed_configurations (routed_is.Silenced router silences) =
    Silenced (router_config router) (silences_view silences.now)
routed_configurations (routed_is.Ends config) = Ends (config_view config.now)
routed_configurations (routed_is.Matched matchers) = Matched matchers.now

abbrev pub AreRoutedOver : List Label → Routed → Type 0
AreRoutedOver u (routed_is.One router) = IsRouterOver u router
AreRoutedOver u (routed_is.Pair old new) = IsRouterOver u old × IsRouterOver u new
AreRoutedOver u (routed_is.Silenced router silences) = IsRouterOver u router
AreRoutedOver u (routed_is.Ends config) = ⊤
AreRoutedOver u (routed_is.Matched matchers) = ⊤
