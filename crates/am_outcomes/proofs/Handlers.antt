-- The routes that handle an alert, from a route on, are those at its ends.
use Rattle.std.proofs.Common.{◌≡◌, ℕ, suc, ◌+◌, Bool, true, false, cond, List, [], ◌∷◌, ◌++◌, map, length}
use Rattle.std.proofs.Common.{Option, Some, refl, ap, sym, ◌∙◌, arith}
use Rattle.std.specs.Prelude.{option_and_then, slice_get}
use Rattle.std.specs.List.{cons_option, filter_map, flat_map}
use Rattle.std.proofs.lemmas.List.{length-append, length-map}
use Rattle.std.proofs.lemmas.List.Elements.{filter_map-append}
use Rattle.am_universe.specs.LabelSet.{LabelMap}
use Rattle.am_labels.specs.Matcher.{all_hold}
use Rattle.am_config.specs.ConfigFile.{RouteTree, Routes, route, no_routes, next_route, children_of}
use Rattle.am_config.specs.Path.{list_of, route_at}
use Rattle.am_eval.specs.Routing.{Child, ends_at, children_seen, ends_tried, tried, or_own_path}
use Rattle.am_eval.specs.Routing.{is_last}
use Rattle.am_outcomes.specs.Handling.{handlers_at, handlers_among, or_this}

-- at each of some ends there is a route, and these are the routes
abbrev AreAt : (List ℕ → Option RouteTree) → List (List ℕ) → List RouteTree → Type 0
AreAt at paths routes = (filter_map at paths ≡ routes) × (length routes ≡ length paths)

-- the ends at the children behind one, which may be the last that is tried
abbrev ends_behind : Bool → List Child → List (List ℕ)
ends_behind last cs = flat_map (λ c. c.ends) (cond last [] (tried cs))

module _ (s : LabelMap) where
  -- if there are no ends below a route, it is one
  at_itself : (t : RouteTree) (paths : List (List ℕ)) (routes : List RouteTree)
      → AreAt (route_at t) paths routes → AreAt (route_at t) (or_own_path paths) (or_this t routes)
  at_itself t [] [] are = (refl, refl)
  at_itself t [] (r ∷ routes) are = absurd (omega (arith, are.1))
  at_itself t (path ∷ paths) [] are = absurd (omega (arith, are.1))
  at_itself t (path ∷ paths) (r ∷ routes) are = are

  at_matched : (matched : Bool) (t : RouteTree) (paths : List (List ℕ)) (routes : List RouteTree)
      → AreAt (route_at t) paths routes
      → AreAt (route_at t) (cond matched (or_own_path paths) [])
      (cond matched (or_this t routes) [])
  at_matched true t paths routes are = at_itself t paths routes are
  at_matched false t paths routes are = (refl, refl)

  -- ends at and below a child, from its parent on
  through_child : (at below : List ℕ → Option RouteTree) (i : ℕ) (paths : List (List ℕ))
      → ((path : List ℕ) → at (i ∷ path) ≡ below path)
      → filter_map at (map (λ path. i ∷ path) paths) ≡ filter_map below paths
  through_child at below i [] same = refl
  through_child at below i (path ∷ paths) same =
      λ j. cons_option (same path j) (through_child at below i paths same j)

  joined : (at : List ℕ → Option RouteTree) (paths more : List (List ℕ))
      (routes others : List RouteTree) → AreAt at paths routes → AreAt at more others
      → AreAt at (paths ++ more) (routes ++ others)
  joined at paths more routes others are also = (
    filter_map-append at paths more ∙ (λ i. are.0 i ++ also.0 i),
    omega (arith, are.1, also.1, length-append routes others, length-append paths more),
  )

  behind : (last : Bool) (at : List ℕ → Option RouteTree) (cs : List Child)
      (routes : List RouteTree) → AreAt at (ends_tried cs) routes
      → AreAt at (ends_behind last cs) (cond last [] routes)
  behind true at cs routes are = (refl, refl)
  behind false at cs routes are = are

  mutual
    found_at : (t : RouteTree) → AreAt (route_at t) (ends_at s t) (handlers_at s t)
    found_at (route settings children) =
        at_matched (all_hold s settings.matchers) (route settings children)
        (ends_tried (children_seen s 0 children)) (handlers_among s children)
        (found_among (route settings children) 0 children
        (λ k. let here : 0 + k ≡ k = omega arith in ap (slice_get (list_of children)) here))

    found_among : (parent : RouteTree) (i : ℕ) (ts : Routes)
        → ((k : ℕ) → slice_get (list_of (children_of parent)) (i + k) ≡ slice_get (list_of ts) k)
        → AreAt (route_at parent) (ends_tried (children_seen s i ts)) (handlers_among s ts)
    found_among parent i no_routes same = (refl, refl)
    found_among parent i (next_route t ts) same =
        let one = found_at t in
        let here : i + 0 ≡ i = omega arith in
        let child : slice_get (list_of (children_of parent)) i ≡ Some t =
        ap (slice_get (list_of (children_of parent))) (sym here) ∙ same 0 in
        joined (route_at parent) (map (λ path. i ∷ path) (ends_at s t))
        (ends_behind (is_last s t) (children_seen s (i + 1) ts)) (handlers_at s t)
        (cond (is_last s t) [] (handlers_among s ts)) (
          through_child (route_at parent) (route_at t) i (ends_at s t)
              (λ path. ap (option_and_then (λ c. route_at c path)) child)
              ∙ one.0,
          one.1 ∙ sym (length-map (ends_at s t) (λ path. i ∷ path)),
        )
        (behind (is_last s t) (route_at parent) (children_seen s (i + 1) ts) (handlers_among s ts)
        (found_among parent (i + 1) ts
        (λ k. let next : (i + 1) + k ≡ i + suc k = omega arith in
        ap (slice_get (list_of (children_of parent))) next ∙ same (suc k))))

  pub handlers_found : (t : RouteTree) → filter_map (route_at t) (ends_at s t) ≡ handlers_at s t
  handlers_found t = (found_at t).0
