-- Groups of routes, by how they stand to each other in the tree of routes, or by their receivers.
use Rattle.std.specs.Prelude.{◌≡◌, ◌≤◌, ℕ, List, [], ◌∷◌, length, Bool, true, false, not, ◌&&◌}
use Rattle.std.specs.Prelude.{◌==◌, nat_lt, if◌then◌else◌}
use Rattle.am_universe.specs.Text.{same_text}
use Rattle.am_config.specs.declared.routes.RouteList.{RouteList}
use Rattle.am_config.specs.ConfigFile.{Configuration, RouteTree, continues_of, receiver_of}
use Rattle.am_config.specs.RoutePaths.{all_routes, AreListed}
use Rattle.am_judged_lists.specs.declared.cube_set.CubeSet.{CubeSet}
use Rattle.am_judged_lists.specs.declared.cube_set.TheConstants.{MAX_CUBES}
use Rattle.am_judged_lists.specs.CubeSetView.{contains}
use Rattle.am_judged_lists.specs.Places.{is_at}
use Rattle.am_plans.specs.declared.route_groups.Kin.{Kin}
use Rattle.am_plans.specs.declared.route_groups.Kin.TheVariants as kin
use Rattle.am_plans.specs.declared.route_groups.Group.{Group}
use Rattle.am_plans.specs.declared.route_groups.Group.TheVariants as groups

-- How the route at the second path stands to the way to the route at the first path.
-- Source: own choice.
-- Example: for `/2/1`, the routes at `/`, `/2` and `/2/1` are on the way, those at `/0`, `/1` and
-- `/2/0` are before it, the one at `/2/1/3` is a child, and those at `/3`, `/1/0` and `/2/1/3/0`
-- are apart.
abbrev pub kin_of : List ℕ → List ℕ → Kin
kin_of path [] = kin.OnWay
kin_of [] (q ∷ []) = kin.Child
kin_of [] (q ∷ r ∷ other) = kin.Apart
kin_of (p ∷ path) (q ∷ other) =
    if p == q then kin_of path other
    else if nat_lt q p && length other == 0 then kin.Before else kin.Apart

-- The tests of how a route, which is at this path, stands to the way to a route. A sibling with
-- `continue` does not count as before it.
abbrev pub is_on_way : Kin → Bool
is_on_way kin.OnWay = true
is_on_way other = false

abbrev pub is_before : Kin → Bool
is_before kin.Before = true
is_before other = false

abbrev pub is_child : Kin → Bool
is_child kin.Child = true
is_child other = false

abbrev pub stands_on_way : List ℕ → List ℕ × RouteTree → Bool
stands_on_way end found = is_on_way (kin_of end found.0)

abbrev pub stands_before : List ℕ → List ℕ × RouteTree → Bool
stands_before end found = not (continues_of found.1) && is_before (kin_of end found.0)

abbrev pub stands_below : List ℕ → List ℕ × RouteTree → Bool
stands_below end found = is_child (kin_of end found.0)

-- A route, which is at this path, is in a group.
abbrev pub is_in_group : Group → List ℕ × RouteTree → Bool
is_in_group (groups.OnWay end) = stands_on_way end.now
is_in_group (groups.Before end) = stands_before end.now
is_in_group (groups.Children end) = stands_below end.now
is_in_group (groups.At end) = λ found. same_text found.0 end.now
is_in_group (groups.With receiver) = λ found. receiver_of found.1 == receiver

-- The routes of a configuration are listed, and a set has room for all of them.
pub record AreRoutesOf (c : Configuration) (routes : RouteList) : Type 0 where
  pub listed : AreListed (all_routes c) routes
  pub few : length (all_routes c) ≤ MAX_CUBES

-- A set has exactly the places of those routes that pass a test.
abbrev pub IsGroup : List (List ℕ × RouteTree) → (List ℕ × RouteTree → Bool) → CubeSet → Type 0
IsGroup all test set = (k : ℕ) → contains set k ≡ is_at test all k
