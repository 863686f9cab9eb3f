-- Paths: going down from a route one child at a time.
use Rattle.std.proofs.Common.{◌≡◌, ◌≢◌, ℕ, zero, suc, ◌+◌, ◌<◌, ◌≤◌, List, [], ◌∷◌, ◌++◌, length}
use Rattle.std.proofs.Common.{map, drop, get_or, add-one, Option, Some, None, refl, sym, ap, ◌∙◌}
use Rattle.std.proofs.Common.{arith}
use Rattle.std.specs.Prelude.{option_and_then, option_map, slice_get}
use Rattle.std.specs.List.{AllByRecursion}
use Rattle.std.proofs.lemmas.Option.{slice_get-map, option_and_then_some, same_Some, none-some}
use Rattle.std.proofs.Math.Nat.{le-max_left, le-max_right}
use Rattle.std.proofs.Math.Seq.{drop-cons}
use Rattle.am_config.specs.declared.limits.TheConstants.{MAX_ROUTES, MAX_CHILD_POSITION}
use Rattle.am_config.specs.declared.limits.TheConstants.{MAX_PATH_STEPS}
use Rattle.am_config.specs.declared.route.Route.{Route}
use Rattle.am_config.specs.ConfigFile.{RouteTree, route, Routes, no_routes, next_route, routes_of}
use Rattle.am_config.specs.ConfigFile.{children_of, route_count, routes_count, route_levels}
use Rattle.am_config.specs.ConfigFile.{routes_levels, Configuration, IsConfig}
use Rattle.am_config.specs.RouteView.{route_view}
use Rattle.am_config.specs.Path.{list_of, route_at, IsPath}

pub list_of-routes_of : (ts : List RouteTree) → list_of (routes_of ts) ≡ ts
list_of-routes_of [] = refl
list_of-routes_of (t ∷ ts) = ap (λ rest. t ∷ rest) (list_of-routes_of ts)

-- the route to which a path leads from a child, if there is such a child
abbrev route_below : List ℕ → Option Route → Option RouteTree
route_below path child = option_and_then (λ c. route_at (route_view c) path) child

below-map : (path : List ℕ) (child : Option Route)
    → option_and_then (λ c. route_at c path) (option_map route_view child)
    ≡ route_below path child
below-map path None = refl
below-map path (Some c) = refl

-- the first position that is left leads to one of the children, and the others go on from there
goes_down : (t : RouteTree) (routes : List Route) (path : List ℕ) (i : ℕ) → i < length path
    → routes_of (map route_view routes) ≡ children_of t
    → route_at t (drop i path)
    ≡ route_below (drop (i + 1) path) (slice_get routes (get_or path i 0))
goes_down t routes path i within children =
    let p : ℕ = get_or path i 0 in
    let rest : List ℕ = drop (i + 1) path in
    let first : drop i path ≡ p ∷ rest = rw (add-one, drop-cons path i 0) in
    let child : slice_get (list_of (children_of t)) p ≡ option_map route_view (slice_get routes p) =
    rw (← children, list_of-routes_of (map route_view routes)) (slice_get-map route_view routes p)
    in
    ap (route_at t) first ∙ ap (option_and_then (λ c. route_at c rest)) child
    ∙ below-map rest (slice_get routes p)

pub goes_down_to : (t : RouteTree) (routes : List Route) (path : List ℕ) (i p : ℕ) (child : Route)
    → i < length path → p ≡ get_or path i 0 → routes_of (map route_view routes) ≡ children_of t
    → slice_get routes p ≡ Some child
    → route_at t (drop i path) ≡ route_at (route_view child) (drop (i + 1) path)
goes_down_to t routes path i p child within is children found =
    goes_down t routes path i within children
    ∙ ap (route_below (drop (i + 1) path)) (ap (slice_get routes) (sym is) ∙ found)

pub no_child : (t : RouteTree) (routes : List Route) (path : List ℕ) (i p : ℕ)
    → i < length path → p ≡ get_or path i 0 → routes_of (map route_view routes) ≡ children_of t
    → slice_get routes p ≡ None → route_at t (drop i path) ≡ None
no_child t routes path i p within is children absent =
    goes_down t routes path i within children
    ∙ ap (route_below (drop (i + 1) path)) (ap (slice_get routes) (sym is) ∙ absent)

-- ---- How far down, and how far to the side, a path leads.

pub level_among : (ts : Routes) (p : ℕ) (child : RouteTree) → slice_get (list_of ts) p ≡ Some child
    → route_levels child ≤ routes_levels ts
level_among no_routes p child found = absurd (none-some child found)
level_among (next_route t ts) zero child found =
    let same = same_Some t child found in
    rw (sym same) (le-max_left (route_levels t) (routes_levels ts))
level_among (next_route t ts) (suc p) child found =
    omega (arith, level_among ts p child found, le-max_right (route_levels t) (routes_levels ts))

pub some_routes : (t : RouteTree) → 0 < route_count t
some_routes (route settings children) = omega arith

pub count_among : (ts : Routes) (p : ℕ) (child : RouteTree) → slice_get (list_of ts) p ≡ Some child
    → p + route_count child ≤ routes_count ts
count_among no_routes p child found = absurd (none-some child found)
count_among (next_route t ts) zero child found =
    let same : route_count t ≡ route_count child = ap route_count (same_Some t child found) in
    omega arith
count_among (next_route t ts) (suc p) child found =
    omega (arith, count_among ts p child found, some_routes t)

-- each step leads to a lower level
pub levels_down : (path : List ℕ) (t below : RouteTree) → route_at t path ≡ Some below
    → length path + route_levels below ≤ route_levels t
levels_down [] t below found = omega (arith, ap route_levels (same_Some t below found))
levels_down (p ∷ ps) (route settings children) below found =
    option_and_then_some (λ child. route_at child ps) (slice_get (list_of children) p) below found
    (λ child is further.
    omega (arith, levels_down ps child below further, level_among children p child is))

-- the route, a child and all the children before it are different routes
pub positions_within : (path : List ℕ) (t below : RouteTree) → route_count t ≤ MAX_ROUTES
    → route_at t path ≡ Some below → AllByRecursion (λ p. p ≤ MAX_CHILD_POSITION) path
positions_within [] t below few found = tt
positions_within (p ∷ ps) (route settings children) below few found =
    option_and_then_some (λ child. route_at child ps) (slice_get (list_of children) p) below found
    (λ child is further.
    let count = count_among children p child is in
    let some = some_routes child in
    (omega arith, positions_within ps child below (omega arith) further))

and_then-Some : {A : Type 0} (o : Option A) → option_and_then (λ x. Some x) o ≡ o
and_then-Some None = refl
and_then-Some (Some x) = refl

and_then_twice : {A B C : Type 0} (f : A → Option B) (g : B → Option C) (h : A → Option C)
    → ((x : A) → h x ≡ option_and_then g (f x)) → (o : Option A)
    → option_and_then h o ≡ option_and_then g (option_and_then f o)
and_then_twice f g h same None = refl
and_then_twice f g h same (Some x) = same x

abbrev pub child_of : ℕ → RouteTree → Option RouteTree
child_of p parent = slice_get (list_of (children_of parent)) p

-- one more step
pub route_at-child : (path : List ℕ) (t : RouteTree) (p : ℕ)
    → route_at t (path ++ (p ∷ [])) ≡ option_and_then (child_of p) (route_at t path)
route_at-child [] t p = and_then-Some (child_of p t)
route_at-child (q ∷ qs) t p =
    and_then_twice (λ child. route_at child qs) (child_of p)
    (λ child. route_at child (qs ++ (p ∷ []))) (λ child. route_at-child qs child p) (child_of q t)

pub some_levels : (t : RouteTree) → 0 < route_levels t
some_levels (route settings children) = omega arith

-- a route with a child is above the last level
levels_above : (t : RouteTree) → children_of t ≢ no_routes → 2 ≤ route_levels t
levels_above (route settings no_routes) parent = absurd (parent refl)
levels_above (route settings (next_route t ts)) parent =
    omega (arith, some_levels t, le-max_left (route_levels t) (routes_levels ts))

pub path_of_route : (c : Configuration) (path : List ℕ) (t : RouteTree) → IsConfig c
    → route_at c.root path ≡ Some t → IsPath path
path_of_route c path t sound found =
    let down = levels_down path c.root t found in
    record {
      steps = omega (arith, down, some_levels t, sound.levels_within_limit);
      positions = positions_within path c.root t sound.routes_within_limit found;
    }

pub room_for_child : (c : Configuration) (path : List ℕ) (t : RouteTree) → IsConfig c
    → route_at c.root path ≡ Some t → children_of t ≢ no_routes → length path < MAX_PATH_STEPS
room_for_child c path t sound found parent =
    omega (
      arith,
      levels_down path c.root t found,
      levels_above t parent,
      sound.levels_within_limit,
    )
