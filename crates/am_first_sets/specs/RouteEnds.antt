-- The parts of `RouteEnds` that its contracts name.
use Rattle.am_labels.specs.Space.{Space}
use Rattle.am_config.specs.ConfigFile.{Configuration}
use Rattle.am_config.specs.ConfigView.{config_view}
use Rattle.am_first_sets.specs.declared.route_ends.RouteEnds.{RouteEnds}

-- The space and the configuration.
abbrev pub ends_space : RouteEnds → Space
ends_space routes = routes.possible.space.now

abbrev pub ends_config : RouteEnds → Configuration
ends_config routes = config_view routes.config.now
