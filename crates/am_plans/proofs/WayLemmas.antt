-- The way to a route, by how each route of the configuration stands to it.
use Rattle.std.proofs.Common.{◌≡◌, ◌≤◌, ◌<◌, ℕ, zero, suc, ◌+◌, Bool, true, ◌&&◌, ◌||◌}
use Rattle.std.proofs.Common.{List, [], ◌∷◌, ◌++◌, take, map, length, Some, refl, ap, sym, ◌∙◌, inl, inr}
use Rattle.std.proofs.Common.{arith, append_assoc}
use Rattle.std.specs.Prelude.{slice_get}
use Rattle.std.specs.List.{list_all}
use Rattle.std.proofs.lemmas.Bool.{cases_Bool, eq-eqb, ne_eqb, lt-ltb, le-ltb}
use Rattle.std.proofs.lemmas.List.{append-nil}
use Rattle.std.proofs.lemmas.List.Folds.{list_all-append, list_all-map}
use Rattle.std.proofs.lemmas.Option.{option_and_then_some, same_Some}
use Rattle.am_config.specs.ConfigFile.{RouteTree, Routes, route, no_routes, next_route}
use Rattle.am_config.specs.ConfigFile.{matchers_of, continues_of, children_of}
use Rattle.am_config.specs.Path.{list_of, route_at}
use Rattle.am_config.specs.RoutePaths.{routes_at, routes_from}
use Rattle.am_judged_lists.proofs.ListLemmas.{and_true}
use Rattle.am_eval.specs.declared.reach.Reach.{Reach}
use Rattle.am_eval.specs.declared.reach.Reach.TheVariants.{Ends, Enters}
use Rattle.am_eval.specs.Conditions.{Literal, some_way_holds, matching, not_matching}
use Rattle.am_eval.specs.Conditions.{stopped_by_none, asked_at, ways_below}
use Rattle.am_eval.proofs.SomeWay.{some_way-literal, some_way-front}
use Rattle.std.proofs.Math.Bool.{or-false, and_assoc}
use Rattle.am_plans.specs.declared.route_groups.Kin.{Kin}
use Rattle.am_plans.specs.declared.route_groups.Kin.TheVariants.{OnWay, Before, Child, Apart}
use Rattle.am_plans.specs.RouteGroups.{kin_of}

-- two paths with the same front
kin_front : (front path other : List ℕ) → kin_of (front ++ path) (front ++ other) ≡ kin_of path other
kin_front [] path other = refl
kin_front (p ∷ front) path other = rw (eq-eqb p p refl) (kin_front front path other)

-- a path and itself, and a path and its front
pub kin_itself : (path : List ℕ) → kin_of path path ≡ OnWay
kin_itself [] = refl
kin_itself (p ∷ path) = rw (eq-eqb p p refl) (kin_itself path)

kin_on_way : (front path : List ℕ) → kin_of (front ++ path) front ≡ OnWay
kin_on_way front path = ap (kin_of (front ++ path)) (sym (append-nil front)) ∙ kin_front front path []

module _ (holds : Literal → Bool) (reach : Reach) where
  -- what the way to a route asks of another route, by how that one stands to it
  abbrev pub asked_of_child : Reach → RouteTree → Bool
  asked_of_child Ends t = holds (not_matching (matchers_of t))
  asked_of_child Enters t = true

  abbrev pub asked_of : Kin → RouteTree → Bool
  asked_of OnWay t = holds (matching (matchers_of t))
  asked_of Before t = continues_of t || holds (not_matching (matchers_of t))
  asked_of Child t = asked_of_child reach t
  asked_of Apart t = true

  abbrev pub asks : List ℕ → List ℕ × RouteTree → Bool
  asks path found = asked_of (kin_of path found.0) found.1

  -- ---- Routes that are apart from the way.

  -- those below the path `front`, from the child at `i` on
  abbrev AreApart : List ℕ → List ℕ → ℕ → Type 0
  AreApart path front i = (s : ℕ) (more : List ℕ) → i ≤ s → kin_of path (front ++ s ∷ more) ≡ Apart

  below_apart : (path front : List ℕ) (i : ℕ) → ((more : List ℕ) → kin_of path (front ++ i ∷ more) ≡ Apart)
      → AreApart path (front ++ i ∷ []) 0
  below_apart path front i apart s more low = ap (kin_of path) (append_assoc front (i ∷ []) (s ∷ more)) ∙ apart (s ∷ more)

  mutual
    none_asked : (path front : List ℕ) (i : ℕ) (ts : Routes) → AreApart path front i
        → list_all (asks path) (routes_from front i ts) ≡ true
    none_asked path front i no_routes apart = refl
    none_asked path front i (next_route t ts) apart =
        let here = front ++ i ∷ [] in
        list_all-append (asks path) (routes_at here t) (routes_from front (i + 1) ts)
        ∙ (λ j. (one_asked path here t (below_apart path front i (λ more. apart i more (omega arith)))
        ∙ ap (λ k. asked_of k t) (apart i [] (omega arith))) j
        && none_asked path front (i + 1) ts (λ s more low. apart s more (omega (arith, low))) j)

    -- a route, if those below it are apart
    one_asked : (path front : List ℕ) (t : RouteTree) → AreApart path front 0
        → list_all (asks path) (routes_at front t) ≡ asked_of (kin_of path front) t
    one_asked path front (route settings children) apart =
        let own = asked_of (kin_of path front) (route settings children) in
        ap (λ b. own && b) (none_asked path front 0 children apart) ∙ and_true own

  -- ---- The children of the route.

  children_asked : (front : List ℕ) (i : ℕ) (ts : Routes)
      → list_all (asks (front ++ [])) (routes_from front i ts) ≡ list_all (asked_of_child reach) (list_of ts)
  children_asked front i no_routes = refl
  children_asked front i (next_route t ts) =
      let path = front ++ [] in
      let here = front ++ i ∷ [] in
      list_all-append (asks path) (routes_at here t) (routes_from front (i + 1) ts)
      ∙ (λ j. (one_asked path here t (λ s more low. ap (kin_of path) (append_assoc front (i ∷ []) (s ∷ more)) ∙ kin_front front [] (i ∷ s ∷ more))
      ∙ ap (λ k. asked_of k t) (kin_front front [] (i ∷ []))) j
      && children_asked front (i + 1) ts j)

  -- ---- The siblings of a route on the way.

  apart_later : (p i : ℕ) (rest more : List ℕ) → p < i → kin_of (p ∷ rest) (i ∷ more) ≡ Apart
  apart_later p i rest more low = rw (ne_eqb p i (λ e. omega (arith, low, e)), le-ltb i p (omega (arith, low))) refl

  before : (p i : ℕ) (rest : List ℕ) → i < p → kin_of (p ∷ rest) (i ∷ []) ≡ Before
  before p i rest low = rw (ne_eqb p i (λ e. omega (arith, low, e)), lt-ltb i p low) refl

  apart_below : (p i s : ℕ) (rest more : List ℕ) → i < p → kin_of (p ∷ rest) (i ∷ s ∷ more) ≡ Apart
  apart_below p i s rest more low =
      rw (ne_eqb p i (λ e. omega (arith, low, e)), lt-ltb i p low) (rw (ne_eqb (length (s ∷ more)) 0 (λ e. omega (arith, e))) refl)

  siblings_asked : (front : List ℕ) (p : ℕ) (rest : List ℕ) (i k : ℕ) (ts : Routes) (child : RouteTree)
      → i + k ≡ p → slice_get (list_of ts) k ≡ Some child
      → list_all (asks (front ++ p ∷ rest)) (routes_from front i ts)
      ≡ (list_all (asked_of Before) (take k (list_of ts))
      && list_all (asks (front ++ p ∷ rest)) (routes_at (front ++ p ∷ []) child))
  siblings_asked front p rest i k no_routes child same at = absurd (cc)
  siblings_asked front p rest i zero (next_route t ts) child same at =
      let path = front ++ p ∷ rest in
      let is : i ≡ p = omega (arith, same) in
      list_all-append (asks path) (routes_at (front ++ i ∷ []) t) (routes_from front (i + 1) ts)
      ∙ (λ j. list_all (asks path) (routes_at (front ++ is j ∷ []) (same_Some t child at j))
      && none_asked path front (i + 1) ts
      (λ s more low. kin_front front (p ∷ rest) (s ∷ more) ∙ apart_later p s rest more (omega (arith, low, is))) j)
      ∙ and_true (list_all (asks path) (routes_at (front ++ p ∷ []) child))
  siblings_asked front p rest i (suc k) (next_route t ts) child same at =
      let path = front ++ p ∷ rest in
      let here = front ++ i ∷ [] in
      let low : i < p = omega (arith, same) in
      list_all-append (asks path) (routes_at here t) (routes_from front (i + 1) ts)
      ∙ (λ j. (one_asked path here t (λ s more first. ap (kin_of path) (append_assoc front (i ∷ []) (s ∷ more))
      ∙ kin_front front (p ∷ rest) (i ∷ s ∷ more) ∙ apart_below p i s rest more low)
      ∙ ap (λ kin. asked_of kin t) (kin_front front (p ∷ rest) (i ∷ []) ∙ before p i rest low)) j
      && siblings_asked front p rest (i + 1) k ts child (omega (arith, same)) at j)
      ∙ sym (and_assoc (asked_of Before t) (list_all (asked_of Before) (take k (list_of ts)))
      (list_all (asks path) (routes_at (front ++ p ∷ []) child)))

  -- ---- The way itself.

  passed_where : (ts : List RouteTree) → list_all (asked_of Before) ts ≡ list_all holds (stopped_by_none ts)
  passed_where [] = refl
  passed_where (t ∷ ts) = elim (cases_Bool (continues_of t)) [
    | inl e ↦ rw e (passed_where ts)
    | inr e ↦ rw e (ap (λ b. holds (not_matching (matchers_of t)) && b) (passed_where ts))
  ]

  nothing_asked : (ts : List RouteTree) → list_all (asked_of_child Enters) ts ≡ true
  nothing_asked [] = refl
  nothing_asked (t ∷ ts) = nothing_asked ts

  stops_where : (r : Reach) (t : RouteTree)
      → list_all (asked_of_child r) (list_of (children_of t)) ≡ list_all holds (asked_at r t)
  stops_where Ends t =
      sym (list_all-map holds (λ child. not_matching (matchers_of child)) (list_of (children_of t)))
  stops_where Enters t = nothing_asked (list_of (children_of t))

  pub way_is : (front path : List ℕ) (t u : RouteTree) → route_at t path ≡ Some u
      → list_all (asks (front ++ path)) (routes_at front t)
      ≡ (holds (matching (matchers_of t)) && some_way_holds holds (ways_below reach t path))
  way_is front [] (route settings children) u at =
      let t = route settings children in
      (λ j. asked_of (kin_on_way front [] j) t && children_asked front 0 children j)
      ∙ ap (λ b. holds (matching settings.matchers) && b)
      (stops_where reach t ∙ sym (or-false (list_all holds (asked_at reach t))))
  way_is front (p ∷ path) (route settings children) u at =
      let t = route settings children in
      option_and_then_some (λ v. route_at v path) (slice_get (list_of children) p) u at (λ child is further.
      let ways = ways_below reach child path in
      let stops = stopped_by_none (take p (list_of children)) in
      (λ j. asked_of (kin_on_way front (p ∷ path) j) t
      && siblings_asked front p path 0 p children child (omega arith) is j)
      ∙ ap (λ b. holds (matching settings.matchers) && b)
      ((λ j. passed_where (take p (list_of children)) j
      && (ap (λ whole. list_all (asks whole) (routes_at (front ++ p ∷ []) child)) (sym (append_assoc front (p ∷ []) path))
      ∙ way_is (front ++ p ∷ []) path child u further
      ∙ sym (some_way-literal holds (matching (matchers_of child)) ways)) j)
      ∙ sym (rw is (some_way-front holds stops (map (λ way. matching (matchers_of child) ∷ way) ways)))))
