-- The routes of a configuration, one after another, and the paths that lead to them.
use Rattle.std.specs.Prelude.{◌≡◌, ℕ, ◌+◌, List, [], ◌∷◌, ◌++◌, map}
use Rattle.am_config.specs.declared.routes.RouteList.{RouteList}
use Rattle.am_config.specs.ConfigFile.{RouteTree, Routes, route, no_routes, next_route}
use Rattle.am_config.specs.ConfigFile.{Configuration}
use Rattle.am_config.specs.RouteView.{route_view}

-- `routes_at` lists a route, which is at this path, and all routes below it, each with its path, in
-- preorder: a route, then those below it, then its next sibling. `routes_from` does so for some
-- children of the route at this path, the first of which has this position. `all_routes` lists the
-- routes of a configuration. `paths_at` lists only the paths, from a route down, and `paths_of`
-- those of a configuration.
-- Source: own choice.
-- Example: if the top-level route has two children, and the first of these has one, the paths are
-- `/`, `/0`, `/0/0` and `/1`.
abbrev mutual
  pub routes_at : List ℕ → RouteTree → List (List ℕ × RouteTree)
  routes_at path (route settings children) =
      (path, route settings children) ∷ routes_from path 0 children

  pub routes_from : List ℕ → ℕ → Routes → List (List ℕ × RouteTree)
  routes_from path i no_routes = []
  routes_from path i (next_route t ts) =
      routes_at (path ++ i ∷ []) t ++ routes_from path (i + 1) ts

abbrev pub all_routes : Configuration → List (List ℕ × RouteTree)
all_routes c = routes_at [] c.root

abbrev pub paths_at : RouteTree → List (List ℕ)
paths_at t = map (λ found. found.0) (routes_at [] t)

abbrev pub paths_of : Configuration → List (List ℕ)
paths_of c = paths_at c.root

-- A list has exactly these routes and their paths; and a list has them in addition to what it had
-- before, at the end.
pub record AreListed (all : List (List ℕ × RouteTree)) (found : RouteList) : Type 0 where
  pub paths : found.paths.items ≡ map (λ r. r.0) all
  pub routes : map (λ route. route_view route.now) found.routes.items ≡ map (λ r. r.1) all

pub record AddsRoutes (old new : RouteList) (more : List (List ℕ × RouteTree)) : Type 0 where
  pub paths : new.paths.items ≡ old.paths.items ++ map (λ r. r.0) more
  pub routes : map (λ route. route_view route.now) new.routes.items
      ≡ map (λ route. route_view route.now) old.routes.items ++ map (λ r. r.1) more
