-- The routes of a configuration, one after another: how a walk adds them, that each is at its path,
-- and what their paths are.
use Rattle.std.proofs.Common.{◌≡◌, ℕ, suc, ◌+◌, ◌<◌, ◌≤◌, List, [], ◌∷◌, ◌++◌, length, map, get_or}
use Rattle.std.proofs.Common.{drop, Some, refl, sym, ap, ◌∙◌, arith, append_assoc}
use Rattle.std.proofs.Common.{inl, inr, subst, Option, None, Bor}
use Rattle.std.specs.Prelude.{slice_get, option_and_then, option_map}
use Rattle.std.proofs.lemmas.List.{map-append, at_drop_more, length-map}
use Rattle.std.proofs.lemmas.List.{append-nil}
use Rattle.std.proofs.lemmas.Option.{slice_get-map, slice_get_read, same_Some}
use Rattle.am_universe.proofs.ListLemmas.{IsIn, IsIn-split}
use Rattle.am_config.specs.declared.route.Route.{Route}
use Rattle.am_config.specs.ConfigFile.{RouteTree, Routes, route, no_routes, next_route, routes_of}
use Rattle.am_config.specs.ConfigFile.{route_count, routes_count, route_levels, routes_levels}
use Rattle.am_config.specs.ConfigFile.{children_of}
use Rattle.am_config.specs.RouteView.{route_view}
use Rattle.am_config.specs.Path.{list_of, route_at}
use Rattle.am_config.specs.declared.routes.RouteList.{RouteList}
use Rattle.am_config.specs.RoutePaths.{routes_at, routes_from, paths_at, AreListed}
use Rattle.am_config.proofs.Paths.{list_of-routes_of, level_among, count_among, some_routes}
use Rattle.am_config.proofs.Paths.{some_levels, route_at-child, child_of}

-- ---- A child is no larger than all of them.

pub record IsWithin (i : ℕ) (t : RouteTree) (ts : List RouteTree) : Type 0 where
  pub counted : i + route_count t ≤ routes_count (routes_of ts)
  pub some_count : 1 ≤ route_count t
  pub levels : route_levels t ≤ routes_levels (routes_of ts)
  pub some_levels : 1 ≤ route_levels t

pub child_within : (routes : List Route) (i : ℕ) (child : Route) → i < length routes
    → child ≡ get_or routes i child
    → IsWithin i (route_view child) (map route_view routes)
child_within routes i child lt is =
    let ts = map route_view routes in
    let there : slice_get (list_of (routes_of ts)) i ≡ Some (route_view child) =
    rw (
      list_of-routes_of ts,
      slice_get-map route_view routes i,
      slice_get_read routes (length routes) i child refl lt is,
    ) refl in
    record {
      counted = count_among (routes_of ts) i (route_view child) there;
      some_count = some_routes (route_view child);
      levels = level_among (routes_of ts) i (route_view child) there;
      some_levels = some_levels (route_view child);
    }

-- ---- A walk over the children.

-- the routes so far, and the routes of one more child
pub one_more : {X : Type 0} (f : List ℕ × RouteTree → X) (path child : List ℕ) (i : ℕ) (r : Route)
    (children : List Route) (found next whole : List X) → i < length children
    → r ≡ get_or children i r → child ≡ path ++ i ∷ []
    → next ≡ found ++ map f (routes_at child (route_view r))
    → found ++ map f (routes_from path i (routes_of (map route_view (drop i children)))) ≡ whole
    → next ++ map f (routes_from path (i + 1) (routes_of (map route_view (drop (i + 1) children))))
    ≡ whole
one_more f path child i r children found next whole lt is at adds before =
    let left =
    λ (rs : List Route). found ++ map f (routes_from path i (routes_of (map route_view rs))) in
    let more = routes_from path (i + 1) (routes_of (map route_view (drop (i + 1) children))) in
    let all : left (r ∷ drop (i + 1) children) ≡ left (drop i children) =
    ap (λ x. left (x ∷ drop (i + 1) children)) is ∙ sym (at_drop_more left children i r lt) in
    ap (λ found. found ++ map f more) (adds
    ∙ ap (λ p. found ++ map f (routes_at p (route_view r))) at)
    ∙ append_assoc found (map f (routes_at (path ++ i ∷ []) (route_view r))) (map f more)
    ∙ ap (λ rest. found ++ rest)
    (sym (map-append f (routes_at (path ++ i ∷ []) (route_view r)) more))
    ∙ all ∙ before

-- ---- Each at its path.

mutual
  pub each_at : (root : RouteTree) (path : List ℕ) (t : RouteTree) → route_at root path ≡ Some t
      → (found : List ℕ × RouteTree) → IsIn (routes_at path t) found
      → route_at root found.0 ≡ Some found.1
  each_at root path (route settings children) at found (inl same) =
      subst (λ (f : List ℕ × RouteTree). route_at root f.0 ≡ Some f.1) same at
  each_at root path (route settings children) at found (inr below) =
      each_from root path (route settings children) 0 children at
      (λ k. let zero_more : 0 + k ≡ k = omega arith in ap (slice_get (list_of children)) zero_more)
      found below

  each_from : (root : RouteTree) (path : List ℕ) (parent : RouteTree) (i : ℕ) (ts : Routes)
      → route_at root path ≡ Some parent
      → ((k : ℕ) → slice_get (list_of (children_of parent)) (i + k) ≡ slice_get (list_of ts) k)
      → (found : List ℕ × RouteTree) → IsIn (routes_from path i ts) found
      → route_at root found.0 ≡ Some found.1
  each_from root path parent i no_routes at same found there = absurd there
  each_from root path parent i (next_route t ts) at same found there =
      let here : i + 0 ≡ i = omega arith in
      let child : route_at root (path ++ i ∷ []) ≡ Some t =
      route_at-child path root i ∙ ap (option_and_then (child_of i)) at
      ∙ ap (slice_get (list_of (children_of parent))) (sym here) ∙ same 0 in
      elim (IsIn-split (routes_at (path ++ i ∷ []) t) (routes_from path (i + 1) ts) found there) [
        | inl a ↦ each_at root (path ++ i ∷ []) t child found a
        | inr b ↦ each_from root path parent (i + 1) ts at
            (λ k. let next : (i + 1) + k ≡ i + suc k = omega arith in
            ap (slice_get (list_of (children_of parent))) next ∙ same (suc k)) found b
      ]

-- ---- A list of all routes, and of their paths.

pub listed_alike : (all : List (List ℕ × RouteTree)) (found : RouteList) → AreListed all found
    → length found.routes.items ≡ length found.paths.items
listed_alike all found are =
    sym (length-map found.routes.items (λ route. route_view route.now))
    ∙ ap length are.routes ∙ length-map all (λ r. r.1) ∙ sym (length-map all (λ r. r.0))
    ∙ sym (ap length are.paths)

-- a path and a route at the same position in their lists
pub listed_at : (all : List (List ℕ × RouteTree)) (found : RouteList) (i : ℕ) (path : List ℕ)
    (r : Bor Route) → AreListed all found → i < length found.paths.items
    → path ≡ get_or found.paths.items i path → r ≡ get_or found.routes.items i r
    → slice_get all i ≡ Some (path, route_view r.now)
listed_at all found i path r are lt is also =
    let path_there = slice_get_read found.paths.items (length found.paths.items) i path refl lt is in
    let route_there : slice_get found.routes.items i ≡ Some r =
    slice_get_read found.routes.items (length found.routes.items) i r refl
    (omega (arith, listed_alike all found are, lt)) also in
    by (slice_get all i)
    (sym (slice_get-map (λ x. x.0) all i) ∙ ap (λ l. slice_get l i) (sym are.paths) ∙ path_there)
    (sym (slice_get-map (λ x. x.1) all i) ∙ ap (λ l. slice_get l i) (sym are.routes)
    ∙ slice_get-map (λ (x : Bor Route). route_view x.now) found.routes.items i
    ∙ ap (option_map (λ (x : Bor Route). route_view x.now)) route_there)
  where
    by : (o : Option (List ℕ × RouteTree)) → option_map (λ x. x.0) o ≡ Some path
        → option_map (λ x. x.1) o ≡ Some (route_view r.now) → o ≡ Some (path, route_view r.now)
    by None e f = absurd (cc)
    by (Some x) e f =
        λ j. Some (same_Some x.0 path e j, same_Some x.1 (route_view r.now) f j)

-- ---- The paths, from a route on.

abbrev pub paths_from : ℕ → Routes → List (List ℕ)
paths_from i ts = map (λ found. found.0) (routes_from [] i ts)

-- paths from a child down, as paths from its parent down
pub paths_below : (path : List ℕ) (i : ℕ) (paths : List (List ℕ))
    → map (λ below. (path ++ i ∷ []) ++ below) paths
    ≡ map (λ below. path ++ below) (map (λ below. i ∷ below) paths)
paths_below path i [] = refl
paths_below path i (below ∷ paths) = rw (append_assoc, paths_below path i paths) refl

-- the paths of a child, and then those of the children after it
next_by : (i : ℕ) (t : RouteTree) (ts : Routes)
    → map (λ found. found.0) (routes_at (i ∷ []) t) ≡ map (λ below. i ∷ below) (paths_at t)
    → paths_from i (next_route t ts)
    ≡ map (λ below. i ∷ below) (paths_at t) ++ paths_from (i + 1) ts
next_by i t ts shift =
    map-append (λ found. found.0) (routes_at (i ∷ []) t) (routes_from [] (i + 1) ts)
    ∙ ap (λ paths. paths ++ paths_from (i + 1) ts) shift

mutual
  shifted : (path : List ℕ) (t : RouteTree)
      → map (λ found. found.0) (routes_at path t) ≡ map (λ below. path ++ below) (paths_at t)
  shifted path (route settings children) =
      rw append-nil (ap (λ paths. path ∷ paths) (shifted_from path 0 children))

  shifted_from : (path : List ℕ) (i : ℕ) (ts : Routes)
      → map (λ found. found.0) (routes_from path i ts)
      ≡ map (λ below. path ++ below) (paths_from i ts)
  shifted_from path i no_routes = refl
  shifted_from path i (next_route t ts) =
      let under = λ (paths : List (List ℕ)). map (λ below. path ++ below) paths in
      map-append (λ found. found.0) (routes_at (path ++ i ∷ []) t) (routes_from path (i + 1) ts)
      ∙ (λ j. (shifted (path ++ i ∷ []) t ∙ paths_below path i (paths_at t)) j
      ++ shifted_from path (i + 1) ts j)
      ∙ sym (map-append (λ below. path ++ below) (map (λ below. i ∷ below) (paths_at t))
      (paths_from (i + 1) ts))
      ∙ ap under (sym (next_by i t ts (shifted (i ∷ []) t)))

pub paths_next : (i : ℕ) (t : RouteTree) (ts : Routes)
    → paths_from i (next_route t ts)
    ≡ map (λ below. i ∷ below) (paths_at t) ++ paths_from (i + 1) ts
paths_next i t ts = next_by i t ts (shifted (i ∷ []) t)
