-- Which route each literal is about, and the cubes of the matchers of these routes.
use Rattle.std.proofs.Common.{◌≡◌, ℕ, List, [], ◌∷◌, ◌++◌, Bool, true, false, Option, Some, None}
use Rattle.std.proofs.Common.{map, take, drop}
use Rattle.std.proofs.Common.{refl, ap, sym, ◌∙◌, subst, slice_get, append_assoc, IsTrue}
use Rattle.std.specs.Borrow.{Bor}
use Rattle.std.specs.Global.{Vec}
use Rattle.std.specs.List.{AllByRecursion, AllZip, filter, flat_map}
use Rattle.std.proofs.lemmas.List.{take_at, drop_at}
use Rattle.std.proofs.lemmas.Option.{same_Some}
use Rattle.am_universe.specs.Universe.{Label}
use Rattle.am_universe.proofs.ListLemmas.{IsIn, AllByRecursion-at}
use Rattle.am_universe.proofs.Members.{in_at}
use Rattle.am_labels.specs.Matcher.{Matcher}
use Rattle.am_labels.proofs.Passing.{passes_from_kept}
use Rattle.am_config.specs.ConfigFile.{Configuration, RouteTree, matchers_of, continues_of}
use Rattle.am_config.specs.Path.{route_at}
use Rattle.am_config.specs.RoutePaths.{all_routes}
use Rattle.am_complete.proofs.MadeUniverses.{all_joined}
use Rattle.am_complete.proofs.Pushed.{zip_left, zip_right}
use Rattle.am_judged_lists.specs.Cube.{IsCubeOf, MaskedLabels}
use Rattle.am_first_sets.specs.declared.candidate.Candidate.{Candidate}
use Rattle.am_first_sets.specs.Reason.{AreFewer}
use Rattle.am_lint.specs.declared.literals.Literals.{Literals}
use Rattle.am_lint.specs.declared.literals.Part.{Part}
use Rattle.am_lint.specs.declared.literals.Part.TheVariants.{Way, Before, Children}
use Rattle.am_lint.specs.declared.table.TableRoute.{TableRoute}
use Rattle.am_lint.specs.Table.{IsTabled, IsTableOf}
use Rattle.am_lint.specs.Literals.{is_wanted, stands_in, has_route, path_if_any, path_of, IsAbout}
use Rattle.am_lint.specs.Literals.{AddsPart, AreLiterals}
use Rattle.am_lint.proofs.FoundOver.{each_place}
use Rattle.am_lint.proofs.TableLemmas.{stands_at}
use Rattle.am_route_alerts.specs.declared.matcher_cubes.MatcherCube.{MatcherCube}
use Rattle.am_route_alerts.specs.EndMatchers.{is_on_way, takers, way_matchers}
use Rattle.am_route_alerts.specs.MatcherCubes.{IsMatcherCube, AreCubesOf, AreCubesOfRoutes}
use Rattle.am_route_alerts.specs.MatcherCubes.{cubes_if_any, cubes_at}
use Rattle.am_route_alerts.proofs.ZipLists.{zip_through, zip_joined, zip_cut, zip_kept}
use Rattle.am_route_alerts.proofs.ZipLists.{zip_from_images}

-- ---- A literal and its route.

-- the tag of the literal is the position of the route, and its cube that of the route's matchers
abbrev pub IsLiteralOf : List Label → Configuration → Bool → List ℕ × RouteTree → Candidate → Type 0
IsLiteralOf u c wanted route k =
    (slice_get (all_routes c) k.tag ≡ Some route) × IsCubeOf u (matchers_of route.1) k.cube.now
    × (k.wanted ≡ wanted)

-- a path has one route
one_route : (c : Configuration) (r q : List ℕ × RouteTree) → IsIn (all_routes c) r
    → IsIn (all_routes c) q → r.0 ≡ q.0 → r ≡ q
one_route c r q i j same =
    let tree = same_Some r.1 q.1
    (sym (stands_at c r i) ∙ ap (route_at c.root) same ∙ stands_at c q j) in
    λ n. (same n, tree n)

module _ (u : List Label) (c : Configuration) (routes : List TableRoute)
    (known : IsTableOf u c routes) (path : List ℕ) where
  abbrev is_in_part : Part → List ℕ × RouteTree → Bool
  is_in_part part route = stands_in part path route.0 (continues_of route.1)

  -- those of a part are about the routes of this part, one by one
  part_routes : (part : Part) (old new : List Candidate)
      → (adds : AddsPart routes part path routes old new)
      → AllZip (IsLiteralOf u c (is_wanted part)) (filter (is_in_part part) (all_routes c))
      adds.more
  part_routes part old new adds =
      let all = filter (is_in_part part) (all_routes c) in
      let of = IsLiteralOf u c (is_wanted part) in
      each_place (λ route k. route.0 ≡ path_of routes k) of all adds.more
      (λ route k i j same.
      let about = AllByRecursion-at (IsAbout routes part path) adds.more k adds.each j in
      let own = zip_right (IsTabled u) (all_routes c) routes k.tag about.0 known about.1 in
      let place : own.0.0 ≡ route.0 = sym own.2.0 ∙ sym (ap path_if_any about.1) ∙ sym same in
      let is = one_route c own.0 route (in_at (all_routes c) k.tag own.0 own.1)
      (passes_from_kept (is_in_part part) (all_routes c) route i).0 place in
      subst (λ (r : List ℕ × RouteTree). of r k) is (
        own.1,
        subst (λ (cube : MaskedLabels). IsCubeOf u (matchers_of own.0.1) cube) (sym about.3)
            own.2.2,
        about.4,
      ))
      (zip_through (IsTabled u) (λ tabled k. tabled.path ≡ path_of routes k)
      (λ route k. route.0 ≡ path_of routes k) all (filter (has_route part path) routes) adds.more
      (λ route tabled k is same. sym is.0 ∙ same)
      (zip_kept (IsTabled u) (is_in_part part) (has_route part path)
      (λ route tabled is i. stands_in part path (sym is.0 i) (sym is.1 i)) (all_routes c) routes
      known)
      (zip_from_images (λ (tabled : TableRoute). tabled.path) (path_of routes)
      (filter (has_route part path) routes) adds.more (sym adds.paths)))

-- the first literals are about the routes on the way to a route, and the others about those that
-- may take an alert
pub record AreOfRoutes (u : List Label) (c : Configuration) (path : List ℕ) (n : ℕ)
    (ks : List Candidate) : Type 0 where
  pub way : AllZip (IsLiteralOf u c true) (filter (is_on_way path) (all_routes c)) (take n ks)
  pub others : AllZip (IsLiteralOf u c false) (takers c path) (drop n ks)

pub literals_of_routes : (u : List Label) (c : Configuration) (routes : List TableRoute)
    → IsTableOf u c routes → (path : List ℕ) (found : Literals) → AreLiterals routes path found
    → AreOfRoutes u c path found.on_way found.all.items
literals_of_routes u c routes known path found are =
    let rest = are.before.more ++ are.children.more in
    let on_way = part_routes u c routes known path Way [] are.on_way are.way in
    let before = part_routes u c routes known path Before are.on_way are.to_enter are.before in
    let children =
    part_routes u c routes known path Children are.to_enter found.all.items are.children in
    let all : found.all.items ≡ are.on_way ++ rest =
    are.children.adds ∙ ap (λ ks. ks ++ are.children.more) are.before.adds
    ∙ append_assoc are.on_way are.before.more are.children.more in
    record {
      way = subst (AllZip (IsLiteralOf u c true) (filter (is_on_way path) (all_routes c)))
          (sym are.way.adds ∙ sym (take_at are.on_way rest found.on_way (sym are.many_on_way))
          ∙ ap (take found.on_way) (sym all)) on_way;
      others = subst (AllZip (IsLiteralOf u c false) (takers c path))
          (sym (drop_at are.on_way rest found.on_way (sym are.many_on_way))
          ∙ ap (drop found.on_way) (sym all))
          (zip_joined _ _ _ _ _ before children);
    }

-- they stay so if fewer of them are named
pub fewer_of_routes : (u : List Label) (c : Configuration) (path : List ℕ) (n : ℕ)
    (ks ls : List Candidate) → AreFewer ks ls → AreOfRoutes u c path n ks
    → AreOfRoutes u c path n ls
fewer_of_routes u c path n ks ls fewer of =
    let parts = zip_cut (λ (k l : Candidate). (k.cube ≡ l.cube) × (k.wanted ≡ l.wanted)
    × (k.tag ≡ l.tag) × (IsTrue l.named → IsTrue k.named)) n ks ls fewer in
    record {
      way = still true _ _ _ of.way parts.0;
      others = still false _ _ _ of.others parts.1;
    }
  where
    still : (wanted : Bool) (routes : List (List ℕ × RouteTree)) (ks ls : List Candidate)
        → AllZip (IsLiteralOf u c wanted) routes ks → AreFewer ks ls
        → AllZip (IsLiteralOf u c wanted) routes ls
    still wanted routes ks ls of fewer =
        zip_through (IsLiteralOf u c wanted) _ (IsLiteralOf u c wanted) routes ks ls
        (λ route k l is same. (
          ap (slice_get (all_routes c)) (sym same.2) ∙ is.0,
          subst (λ (cube : Bor MaskedLabels). IsCubeOf u (matchers_of route.1) cube.now) same.0
              is.1,
          sym same.1 ∙ is.2,
        )) of fewer

-- ---- The cubes of the matchers of these routes.

pub cubes_of_its_route : (u : List Label) (c : Configuration) (cubes : List (Vec MatcherCube))
    → AreCubesOfRoutes u c cubes → (wanted : Bool) (route : List ℕ × RouteTree) (k : Candidate)
    → IsLiteralOf u c wanted route k → AreCubesOf u (matchers_of route.1) (cubes_at cubes k.tag)
cubes_of_its_route u c cubes known wanted route k of =
    let found = zip_left _ (all_routes c) cubes k.tag route known of.0 in
    subst (AreCubesOf u (matchers_of route.1)) (sym (ap cubes_if_any found.1)) found.2

cubes_of_routes : (u : List Label) (c : Configuration) (cubes : List (Vec MatcherCube))
    → AreCubesOfRoutes u c cubes → (wanted : Bool) (routes : List (List ℕ × RouteTree))
    (ks : List Candidate) → AllZip (IsLiteralOf u c wanted) routes ks
    → AreCubesOf u (flat_map (λ route. matchers_of route.1) routes)
    (flat_map (λ k. cubes_at cubes k.tag) ks)
cubes_of_routes u c cubes known wanted [] [] of = tt
cubes_of_routes u c cubes known wanted (route ∷ routes) (k ∷ ks) of =
    zip_joined (IsMatcherCube u) (matchers_of route.1) (flat_map (λ r. matchers_of r.1) routes)
    (cubes_at cubes k.tag) (flat_map (λ l. cubes_at cubes l.tag) ks)
    (cubes_of_its_route u c cubes known wanted route k of.0)
    (cubes_of_routes u c cubes known wanted routes ks of.1)
cubes_of_routes u c cubes known wanted routes ks of = absurd of

pub their_matchers : (u : List Label) (ms : List Matcher) (found : List MatcherCube)
    → AreCubesOf u ms found → map (λ m. m.matcher.now) found ≡ ms
their_matchers u [] [] are = refl
their_matchers u (m ∷ ms) (cube ∷ found) are =
    λ i. are.0.0 i ∷ their_matchers u ms found are.1 i
their_matchers u ms found are = absurd are

-- those of the first literals are the matchers of the routes on the way
pub way_cubes : (u : List Label) (c : Configuration) (cubes : List (Vec MatcherCube))
    → AreCubesOfRoutes u c cubes → (path : List ℕ) (n : ℕ) (ks : List Candidate)
    → AreOfRoutes u c path n ks
    → map (λ m. m.matcher.now) (flat_map (λ k. cubes_at cubes k.tag) (take n ks))
    ≡ way_matchers c path
way_cubes u c cubes known path n ks of =
    their_matchers u (way_matchers c path) (flat_map (λ k. cubes_at cubes k.tag) (take n ks))
    (cubes_of_routes u c cubes known true (filter (is_on_way path) (all_routes c)) (take n ks)
    of.way)

abbrev pub IsOwnCube : List Label → MatcherCube → Type 0
IsOwnCube u m = IsCubeOf u (m.matcher.now ∷ []) m.cube

each_own : (u : List Label) (ms : List Matcher) (found : List MatcherCube)
    → AreCubesOf u ms found → AllByRecursion (IsOwnCube u) found
each_own u [] [] are = tt
each_own u (m ∷ ms) (cube ∷ found) are = (
  subst (λ (n : Matcher). IsCubeOf u (n ∷ []) cube.cube) (sym are.0.0) are.0.1,
  each_own u ms found are.1,
)
each_own u ms found are = absurd are

own_at : (u : List Label) (c : Configuration) (cubes : List (Vec MatcherCube))
    → AreCubesOfRoutes u c cubes → (i : ℕ) → AllByRecursion (IsOwnCube u) (cubes_at cubes i)
own_at u c cubes known i = one (slice_get cubes i) refl
  where
    one : (found : Option (Vec MatcherCube)) → slice_get cubes i ≡ found
        → AllByRecursion (IsOwnCube u) (cubes_if_any found)
    one None at = tt
    one (Some found) at =
        let own = zip_right _ (all_routes c) cubes i found known at in
        each_own u (matchers_of own.0.1) found.items own.2

-- whichever literals are looked at
pub own_about : (u : List Label) (c : Configuration) (cubes : List (Vec MatcherCube))
    → AreCubesOfRoutes u c cubes → (ks : List Candidate)
    → AllByRecursion (IsOwnCube u) (flat_map (λ k. cubes_at cubes k.tag) ks)
own_about u c cubes known [] = tt
own_about u c cubes known (k ∷ ks) =
    all_joined (IsOwnCube u) (cubes_at cubes k.tag) (flat_map (λ l. cubes_at cubes l.tag) ks)
    (own_at u c cubes known k.tag) (own_about u c cubes known ks)
