-- The routes that a question asks about: those that have a receiver, and the one at a path.
use Rattle.std.proofs.Common.{◌≡◌, ℕ, suc, ◌+◌, length, arith, length-append, Bool, true, false, ◌&&◌, List, [], ◌∷◌, ◌++◌, take, map, Option, Some, None}
use Rattle.std.proofs.Common.{refl, sym, ap, ◌∙◌, inl, inr}
use Rattle.std.specs.Prelude.{◌==◌, slice_get, option_and_then}
use Rattle.std.specs.List.{list_any}
use Rattle.std.specs.Cmp.Lexicographic.{bytes_decides}
use Rattle.std.proofs.lemmas.Bool.{cases_Bool, both_ways, and_from, and_left, and_right}
use Rattle.am_universe.specs.Text.{same_text}
use Rattle.am_universe.proofs.ListLemmas.{IsIn-unmap, AllByRecursion-each}
use Rattle.am_universe.proofs.UniverseLemmas.{list_any-map}
use Rattle.am_config.specs.ConfigFile.{Configuration, RouteTree, matchers_of, receiver_of}
use Rattle.am_config.specs.ConfigFile.{Routes, route, no_routes, next_route, children_of}
use Rattle.am_config.specs.ConfigFile.{route_count, routes_count}
use Rattle.am_config.specs.Path.{list_of, route_at}
use Rattle.am_config.specs.RoutePaths.{all_routes, paths_at, routes_at, routes_from}
use Rattle.am_config.proofs.RouteLists.{each_at}
use Rattle.am_judged_lists.proofs.ListLemmas.{same_any, some_passes, none_passes}
use Rattle.am_eval.specs.declared.reach.Reach.{Reach}
use Rattle.am_eval.specs.Conditions.{matching, stopped_by_none, ways_into, ways_below, ways_to_reach}
use Rattle.am_eval.specs.Conditions.{is_receiver, paths_to}
use Rattle.am_eval.proofs.RoutePathLaws.{is_path}
use Rattle.am_plans.proofs.ListTests.{any_kept}

module _ (c : Configuration) (f : List ℕ → Bool) where
  -- some route with a receiver passes
  pub of_receiver : (receiver : ℕ)
      → list_any (λ found. (receiver_of found.1 == receiver) && f found.0) (all_routes c)
      ≡ list_any f (paths_to receiver c.root)
  of_receiver receiver =
      let kept : List ℕ → Bool = λ path. is_receiver receiver (route_at c.root path) in
      sym (any_kept f kept (paths_at c.root)
      ∙ list_any-map (λ path. kept path && f path) (λ (found : List ℕ × RouteTree). found.0) (all_routes c)
      ∙ same_any (λ (found : List ℕ × RouteTree). kept found.0 && f found.0)
      (λ found. (receiver_of found.1 == receiver) && f found.0) (all_routes c)
      (AllByRecursion-each (λ (found : List ℕ × RouteTree). (kept found.0 && f found.0) ≡ ((receiver_of found.1 == receiver) && f found.0)) (all_routes c)
      (λ found i. ap (λ o. is_receiver receiver o && f found.0) (each_at c.root [] c.root refl found i))))

  -- the route at a path passes, if there is one
  pub of_path : (path : List ℕ) → (route_at c.root path ≡ None → f path ≡ false)
      → list_any (λ found. same_text found.0 path && f found.0) (all_routes c) ≡ f path
  of_path path none =
      let test : List ℕ × RouteTree → Bool = λ found. same_text found.0 path && f found.0 in
      elim (cases_Bool (f path)) [
        | inl passes ↦ by (route_at c.root path) refl passes ∙ sym passes
        | inr fails ↦
            none_passes test (all_routes c)
            (AllByRecursion-each (λ found. test found ≡ false) (all_routes c)
            (λ found i. elim (cases_Bool (same_text found.0 path)) [
              | inl same ↦ and_right (same_text found.0 path) (f found.0) (ap f ((bytes_decides found.0 path).0 same) ∙ fails)
              | inr other ↦ and_left (same_text found.0 path) (f found.0) other
            ])) ∙ sym fails
      ]
    where
      by : (o : Option RouteTree) → route_at c.root path ≡ o → f path ≡ true
          → list_any (λ found. same_text found.0 path && f found.0) (all_routes c) ≡ true
      by None at passes = absurd (both_ways (f path) (none at) passes)
      by (Some t) at passes =
          let found = IsIn-unmap (λ (found : List ℕ × RouteTree). found.0) (all_routes c) path (is_path c.root t path at) in
          some_passes (λ found. same_text found.0 path && f found.0) (all_routes c) found.0 found.1
          (and_from (same_text found.0.0 path) (f found.0.0) ((bytes_decides found.0.0 path).1 found.2) (ap f found.2 ∙ passes))

-- there is no way to a route that is not there
no_way : (reach : Reach) (t : RouteTree) (path : List ℕ) → route_at t path ≡ None → ways_below reach t path ≡ []
no_way reach t [] none = absurd (cc)
no_way reach t (p ∷ path) none =
    ap (map (λ way. stopped_by_none (take p (list_of (children_of t))) ++ way))
    (by (slice_get (list_of (children_of t)) p) (λ child at. no_way reach child path at) none)
  where
    by : (o : Option RouteTree)
        → ((child : RouteTree) → route_at child path ≡ None → ways_below reach child path ≡ [])
        → option_and_then (λ child. route_at child path) o ≡ None
        → ways_into (λ child. ways_below reach child path) o ≡ []
    by None further none = refl
    by (Some child) further none =
        ap (map (λ way. matching (matchers_of child) ∷ way)) (further child none)

pub no_ways : (c : Configuration) (reach : Reach) (path : List ℕ) → route_at c.root path ≡ None
    → ways_to_reach c reach path ≡ []
no_ways c reach path none =
    ap (map (λ way. matching (matchers_of c.root) ∷ way)) (no_way reach c.root path none)

-- ---- How many routes there are.

mutual
  pub count_at : (path : List ℕ) (t : RouteTree) → length (routes_at path t) ≡ route_count t
  count_at path (route settings children) =
      ap suc (count_from path 0 children) ∙ omega arith

  count_from : (path : List ℕ) (i : ℕ) (ts : Routes) → length (routes_from path i ts) ≡ routes_count ts
  count_from path i no_routes = refl
  count_from path i (next_route t ts) =
      length-append (routes_at (path ++ i ∷ []) t) (routes_from path (i + 1) ts)
      ∙ (λ j. count_at (path ++ i ∷ []) t j + count_from path (i + 1) ts j)
