-- Which alerts end at a route, said by matchers.
use Rattle.std.specs.Prelude.{◌≡◌, ◌↔◌, ℕ, List, ◌++◌, Bool, Option, Some, None, slice_get}
use Rattle.std.specs.Prelude.{not, ◌&&◌, IsTrue}
use Rattle.std.specs.List.{AllZip, filter, flat_map, list_any}
use Rattle.am_universe.specs.LabelSet.{LabelMap}
use Rattle.am_labels.specs.Matcher.{Matcher, all_hold}
use Rattle.am_config.specs.ConfigFile.{Configuration, RouteTree, matchers_of, continues_of}
use Rattle.am_config.specs.Path.{leads_through}
use Rattle.am_config.specs.RoutePaths.{all_routes}
use Rattle.am_first_sets.specs.Solving.{marked}
use Rattle.am_eval.specs.Reaching.{EndsAt, SomeIs, IsDead}
use Rattle.am_lint.specs.Places.{stands_before, is_child_of}
use Rattle.am_route_alerts.specs.Shortened.{IsShortened, all_but}

-- Matchers, and lists of matchers. An alert meets them if it matches all the matchers, and none of
-- the lists.
-- Source: own choice.
-- Example: `{team="db"} unless {severity="critical"} or {env="dev"}` is met by
-- `{team="db",env="prod"}`, and not by `{team="db",env="dev"}`.
pub record EndMatchers : Type 0 where
  pub matchers : List Matcher
  pub unless : List (List Matcher)

abbrev pub meets : LabelMap → EndMatchers → Bool
meets set e = all_hold set e.matchers && not (list_any (all_hold set) e.unless)

-- The same without the list at a position.
abbrev pub without_list : ℕ → EndMatchers → EndMatchers
without_list i e = record { matchers = e.matchers; unless = all_but i e.unless }

-- The matchers of all routes on the way to the route at a path, from the top-level route down to
-- the route itself.
-- Source: Alertmanager configuration reference 0.25, "<route>".
-- Example: if `/2` has `team="db"` and `/2/0` has `severity="critical"`, those of `/2/0` are both.
abbrev pub is_on_way : List ℕ → List ℕ × RouteTree → Bool
is_on_way path route = leads_through route.0 path

abbrev pub way_matchers : Configuration → List ℕ → List Matcher
way_matchers c path =
    flat_map (λ route. matchers_of route.1) (filter (is_on_way path) (all_routes c))

-- The routes that may take an alert which matches the way to the route at a path: the earlier
-- siblings, of this route and of those on the way, that lack `continue`; and then its children.
-- Source: Alertmanager configuration reference 0.25, "<route>": `continue`.
-- Example: for `/1/0` these are `/0`, unless it has `continue`, and the children of `/1/0`.
abbrev pub takes_before : List ℕ → List ℕ × RouteTree → Bool
takes_before path route = not (continues_of route.1) && stands_before path route.0

abbrev pub takes_below : List ℕ → List ℕ × RouteTree → Bool
takes_below path route = is_child_of path route.0

abbrev pub takers : Configuration → List ℕ → List (List ℕ × RouteTree)
takers c path =
    filter (takes_before path) (all_routes c) ++ filter (takes_below path) (all_routes c)

-- A list is what is kept of the matchers of a route, for the alerts that meet some matchers.
abbrev pub IsListOf :
    (LabelMap → Type 0) → List Matcher → List ℕ × RouteTree → List Matcher → Type 0
IsListOf Occurs matchers route list =
    IsShortened (λ set. Occurs set × IsTrue (all_hold set matchers)) (matchers_of route.1) list

-- Matchers and lists say which alerts end at the route at a path. An alert that occurs ends there
-- exactly if it meets them, and some alert does. The matchers say the same as those of the way. The
-- lists are those of some routes that may take alerts, in their order, each without what follows
-- from the matchers and the rest of the list. And each list is needed: some alert meets all else,
-- but matches the list, and so ends elsewhere.
-- Source: Alertmanager configuration reference 0.25, "<route>"; own choice.
-- Example: if `/0` has `team="db"`, and its one child has `team="db",severity="critical"`, then
-- `/0` has `{team="db"} unless {severity="critical"}`. A further child with `team="web"` adds no
-- list, since no alert that enters `/0` matches it.
pub record SaysWhichEnd (Occurs : LabelMap → Type 0) (c : Configuration) (path : List ℕ)
    (e : EndMatchers) : Type 0 where
  pub exactly : (set : LabelMap) → Occurs set → EndsAt c path set ↔ IsTrue (meets set e)
  pub some : SomeIs Occurs (EndsAt c path)
  pub way : IsShortened Occurs (way_matchers c path) e.matchers
  pub marks : List Bool
  pub lists : AllZip (IsListOf Occurs e.matchers) (marked marks (takers c path)) e.unless
  pub needed : (i : ℕ) (list : List Matcher) → slice_get e.unless i ≡ Some list
      → SomeIs Occurs (λ set. IsTrue (meets set (without_list i e)) × IsTrue (all_hold set list))

-- What is said of the route at a path, if anything: no alert that occurs ends there, or these do.
abbrev pub IsEnds :
    (LabelMap → Type 0) → Configuration → List ℕ → Option EndMatchers → Type 0
IsEnds Occurs c path None = IsDead Occurs c path
IsEnds Occurs c path (Some e) = SaysWhichEnd Occurs c path e
