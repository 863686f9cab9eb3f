-- Paths: the way from the top-level route down to a route.
use Rattle.std.specs.Prelude.{◌≤◌, ◌+◌, ℕ, List, [], ◌∷◌, ◌++◌, length, map, Option, Some}
use Rattle.std.specs.Prelude.{option_and_then, slice_get, codes, Bool, ◌==◌, if◌then◌else◌}
use Rattle.std.specs.List.{AllByRecursion, flat_map, starts_with}
use Rattle.std.specs.Int.Digits.{digits_of}
use Rattle.am_config.specs.declared.limits.TheConstants.{MAX_PATH_STEPS, MAX_CHILD_POSITION}
use Rattle.am_config.specs.ConfigFile.{RouteTree, Routes, no_routes, next_route, children_of}

-- A number in decimal, without leading zeros, whatever its size. (The `decimal` of std writes at
-- most 64 digits.)
unfoldable pub numeral : ℕ → List ℕ
numeral n = if n == 0 then codes "0" else map (λ d. 48 + d) (digits_of 10 n)

-- One step of a path: `/` and the position.
abbrev pub step_text : ℕ → List ℕ
step_text p = codes "/" ++ numeral p

-- The text of a path: `/` for the top-level route, and for another route `/` and a position for
-- each child on the way. Positions are decimal and count from 0.
-- Source: own choice.
-- Example: the third child of the first child of the top-level route is `/0/2`.
abbrev pub path_text : List ℕ → List ℕ
path_text [] = codes "/"
path_text (p ∷ ps) = flat_map step_text (p ∷ ps)

-- The children of a route as a list.
abbrev pub list_of : Routes → List RouteTree
list_of no_routes = []
list_of (next_route t ts) = t ∷ list_of ts

-- The route to which a path leads, if there is one.
abbrev pub route_at : RouteTree → List ℕ → Option RouteTree
route_at t [] = Some t
route_at t (p ∷ ps) =
    option_and_then (λ child. route_at child ps) (slice_get (list_of (children_of t)) p)

-- The path is no longer than the way down to the last level of routes, and no position in it is
-- larger than that of the last child that a route can have.
pub record IsPath (path : List ℕ) : Type 0 where
  pub steps : length path ≤ MAX_PATH_STEPS
  pub positions : AllByRecursion (λ p. p ≤ MAX_CHILD_POSITION) path

-- The first path is a prefix of the second. So the route of the second path is that of the first,
-- or is below it.
abbrev pub leads_through : List ℕ → List ℕ → Bool
leads_through first path = starts_with (λ p q. p == q) path first
