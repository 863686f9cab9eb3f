-- The route that a `Route` stands for, and the names that a list of texts stands for.
use Rattle.std.specs.Prelude.{ℕ, List, String, string_bytes, map}
use Rattle.std.specs.declared.alloc.Global.{Global}
use Rattle.am_config.specs.declared.route.Route.{Route, fold-Route}
use Rattle.am_config.specs.declared.route.Route.TheOpen.{Route-F}
use Rattle.am_config.specs.ConfigFile.{RouteTree, route, routes_of}

-- One level of a route, in which each child is already the route that it stands for.
abbrev pub view_step : Route-F RouteTree → RouteTree
view_step r = route r.settings (routes_of r.routes.items)

-- The route that a `Route` stands for, with all routes below it.
abbrev pub route_view : Route → RouteTree
route_view = fold-Route RouteTree view_step

-- Names, without their location in memory.
abbrev pub names_of : List (String Global) → List (List ℕ)
names_of names = map string_bytes names
