-- Routing: which routes handle an alert, and which receivers get it. An alert is its label set.
use Rattle.std.specs.Prelude.{ℕ, ◌+◌, List, [], ◌∷◌, map, Bool, not, ◌&&◌, if◌then◌else◌}
use Rattle.std.specs.Prelude.{◌≡◌, Option, Some, option_map, IsTrue, IsFalse, take, slice_get}
use Rattle.std.specs.List.{AllByRecursion, flat_map, filter_map}
use Rattle.am_universe.specs.LabelSet.{LabelMap}
use Rattle.am_labels.specs.Matcher.{all_hold}
use Rattle.am_config.specs.ConfigFile.{RouteTree, Routes, route, no_routes, next_route}
use Rattle.am_config.specs.ConfigFile.{Configuration, matchers_of, continues_of, receiver_of}
use Rattle.am_config.specs.ConfigFile.{children_of}
use Rattle.am_config.specs.Path.{route_at, list_of}

-- The children of a route that are tried for an alert: in order, up to and including the first that
-- matches it and lacks `continue`. Routing looks at three things of a child: whether it matches the
-- alert, whether it has `continue`, and the paths of the routes at it and below it that handle the
-- alert.
-- Source: Alertmanager configuration reference 0.25, "<route>": `continue`.
-- Example: of a child that does not match, one that matches and has `continue`, one that matches
-- and lacks it, and a fourth, the first three are tried.
pub record Child : Type 0 where
  pub matches : Bool
  pub continues : Bool
  pub ends : List (List ℕ)

abbrev pub tried : List Child → List Child
tried [] = []
tried (c ∷ cs) = c ∷ (if c.matches && not c.continues then [] else tried cs)

-- Where an alert ends: the paths, from a route on, of the routes that handle it. If the route does
-- not match the alert, there are none. If it does, they are the ends at the children that are
-- tried, in order, each with the position of the child in front. If these children have no end, the
-- alert ends at the route itself, and the path is empty. An alert enters at the top-level route.
-- Source: Alertmanager configuration reference 0.25, "<route>".
-- Example: let `/0` match and have `continue`, but not its one child. Let `/1` match and lack
-- `continue`, and let `/2` match too. If there are no other routes, the ends are `/0` and `/1`.
abbrev pub ends_tried : List Child → List (List ℕ)
ends_tried cs = flat_map (λ c. c.ends) (tried cs)

abbrev pub or_own_path : List (List ℕ) → List (List ℕ)
or_own_path [] = [] ∷ []
or_own_path (path ∷ paths) = path ∷ paths

abbrev pub child_seen : LabelMap → ℕ → RouteTree → List (List ℕ) → Child
child_seen s i t ends = record {
  matches = all_hold s (matchers_of t);
  continues = continues_of t;
  ends = map (λ path. i ∷ path) ends;
}

abbrev mutual
  pub ends_at : LabelMap → RouteTree → List (List ℕ)
  ends_at s (route settings children) =
      if all_hold s settings.matchers
      then or_own_path (ends_tried (children_seen s 0 children))
      else []

  -- the children from a position on
  pub children_seen : LabelMap → ℕ → Routes → List Child
  children_seen s i no_routes = []
  children_seen s i (next_route t ts) =
      child_seen s i t (ends_at s t) ∷ children_seen s (i + 1) ts

abbrev pub ends : LabelMap → Configuration → List (List ℕ)
ends s c = ends_at s c.root

-- The same for one path, without a list of the children that are tried. An alert ends at a path if
-- it matches each route on the way, if no earlier sibling of one of these both matches it and lacks
-- `continue`, and if it matches no child of the last. The law
-- `an_alert_ends_where_nothing_stops_it` says that it ends there exactly then.
-- Source: Alertmanager configuration reference 0.25, "<route>".
-- Example: an alert ends at `/` exactly if it matches the top-level route and none of its children.
abbrev pub is_last : LabelMap → RouteTree → Bool
is_last s t = all_hold s (matchers_of t) && not (continues_of t)

abbrev pub EndsThere : LabelMap → RouteTree → List ℕ → Type 0
EndsThere s t [] =
    IsTrue (all_hold s (matchers_of t))
    × AllByRecursion (λ child. IsFalse (all_hold s (matchers_of child))) (list_of (children_of t))
EndsThere s t (p ∷ path) =
    IsTrue (all_hold s (matchers_of t))
    × (child : RouteTree) × (slice_get (list_of (children_of t)) p ≡ Some child)
    × AllByRecursion (λ earlier. IsFalse (is_last s earlier)) (take p (list_of (children_of t)))
    × EndsThere s child path

-- The receivers of an alert, by their positions: the receiver of each end, in order. If two ends
-- have the same receiver, it occurs twice.
-- Source: Alertmanager configuration reference 0.25, "<route>": `receiver`.
-- Example: if an alert ends at `/0` and `/1`, and both have the receiver at position 2, the
-- receivers are 2 and 2.
abbrev pub receiver_at : Configuration → List ℕ → Option ℕ
receiver_at c path = option_map receiver_of (route_at c.root path)

abbrev pub receivers : LabelMap → Configuration → List ℕ
receivers s c = filter_map (receiver_at c) (ends s c)

-- There is a route at the path, and the alert matches it.
abbrev pub MatchesAt : LabelMap → Configuration → List ℕ → Type 0
MatchesAt s c path =
    (t : RouteTree) × (route_at c.root path ≡ Some t) × IsTrue (all_hold s (matchers_of t))
