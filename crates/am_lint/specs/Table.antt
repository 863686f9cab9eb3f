-- The routes of a configuration over labels, as a table.
use Rattle.std.specs.Prelude.{◌≡◌, ℕ, List, Some}
use Rattle.std.specs.List.{AllZip}
use Rattle.am_universe.specs.Universe.{Label}
use Rattle.am_labels.specs.Space.{Space}
use Rattle.am_config.specs.ConfigFile.{Configuration, RouteTree, matchers_of, continues_of}
use Rattle.am_config.specs.ConfigFile.{receiver_of}
use Rattle.am_config.specs.ConfigView.{config_view}
use Rattle.am_config.specs.Path.{route_at}
use Rattle.am_config.specs.RoutePaths.{all_routes}
use Rattle.am_judged_lists.specs.Cube.{IsCubeOf}
use Rattle.am_first_sets.specs.PossibleSets.{possible_space}
use Rattle.am_lint.specs.declared.table.TableRoute.{TableRoute}
use Rattle.am_lint.specs.declared.table.Table.{Table}

-- A route stands in the table with its path, whether it has `continue`, the cube of its matchers
-- over the labels, and its receiver. The table has all routes of a configuration, in preorder.
abbrev pub IsTabled : List Label → List ℕ × RouteTree → TableRoute → Type 0
IsTabled u found route =
    (route.path ≡ found.0) × (route.continues ≡ continues_of found.1)
    × IsCubeOf u (matchers_of found.1) route.cube × (route.receiver ≡ receiver_of found.1)

abbrev pub IsTableOf : List Label → Configuration → List TableRoute → Type 0
IsTableOf u c routes = AllZip (IsTabled u) (all_routes c) routes

-- The space and the configuration of a table. The table has the routes of this configuration over
-- the labels of this space.
abbrev pub table_space : Table → Space
table_space table = possible_space table.possible

abbrev pub table_config : Table → Configuration
table_config table = config_view table.config.now

abbrev pub KnowsRoutes : Table → Type 0
KnowsRoutes table = IsTableOf (table_space table).labels (table_config table) table.routes.items

-- There is a route at the path.
abbrev pub IsRoute : Configuration → List ℕ → Type 0
IsRoute c path = (t : RouteTree) × (route_at c.root path ≡ Some t)
