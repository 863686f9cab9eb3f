-- How the routes of a table correspond to the routes of the configuration.
use Rattle.std.proofs.Common.{◌≡◌, ℕ, List, [], Some, refl, subst, sym, ap, ◌∙◌, slice_get}
use Rattle.std.specs.List.{AllZip}
use Rattle.std.proofs.lemmas.Option.{same_Some}
use Rattle.am_universe.proofs.ListLemmas.{IsIn, IsIn-unmap}
use Rattle.am_universe.proofs.Members.{at_in, in_at}
use Rattle.am_universe.specs.Universe.{Label}
use Rattle.am_complete.proofs.Pushed.{zip_left as left_at, zip_right as right_at}
use Rattle.am_config.specs.ConfigFile.{RouteTree, Configuration}
use Rattle.am_config.specs.Path.{route_at}
use Rattle.am_config.specs.RoutePaths.{all_routes}
use Rattle.am_config.proofs.RouteLists.{each_at}
use Rattle.am_eval.proofs.RoutePathLaws.{is_path}
use Rattle.am_lint.specs.declared.table.TableRoute.{TableRoute}
use Rattle.am_lint.specs.Table.{IsTabled, IsTableOf}

-- ---- Lists, position by position.

pub zip_left : {X Y : Type 0} (R : X → Y → Type 0) (xs : List X) (ys : List Y) (x : X)
    → AllZip R xs ys → IsIn xs x → (y : Y) × IsIn ys y × R x y
zip_left R xs ys x h i =
    let k = at_in xs x i in
    let r = left_at R xs ys k.0 x h k.1 in (r.0, in_at ys k.0 r.0 r.1, r.2)

pub zip_right : {X Y : Type 0} (R : X → Y → Type 0) (xs : List X) (ys : List Y) (y : Y)
    → AllZip R xs ys → IsIn ys y → (x : X) × IsIn xs x × R x y
zip_right R xs ys y h i =
    let k = at_in ys y i in
    let r = right_at R xs ys k.0 y h k.1 in (r.0, in_at xs k.0 r.0 r.1, r.2)

-- ---- The routes of a configuration.

-- they stand at their paths
pub stands_at : (c : Configuration) (found : List ℕ × RouteTree) → IsIn (all_routes c) found
    → route_at c.root found.0 ≡ Some found.1
stands_at c found i = each_at c.root [] c.root refl found i

-- and each is listed
pub listed : (c : Configuration) (q : List ℕ) (t : RouteTree) → route_at c.root q ≡ Some t
    → IsIn (all_routes c) (q, t)
listed c q t at =
    let r = IsIn-unmap (λ (found : List ℕ × RouteTree). found.0) (all_routes c) q
    (is_path c.root t q at) in
    let same : Some r.0.1 ≡ Some t =
    sym (stands_at c r.0 r.1) ∙ ap (route_at c.root) r.2 ∙ at in
    let is : r.0 ≡ (q, t) = λ i. (r.2 i, same_Some r.0.1 t same i) in
    subst (IsIn (all_routes c)) is r.1

-- ---- A route of the table.

module _ (u : List Label) (c : Configuration) (routes : List TableRoute)
    (known : IsTableOf u c routes) where
  -- the route of the configuration that is at the path of a route of the table
  pub its_route : (i : ℕ) (route : TableRoute) → slice_get routes i ≡ Some route
      → (found : List ℕ × RouteTree) × (route_at c.root found.0 ≡ Some found.1)
      × IsTabled u found route
  its_route i route at =
      let r = zip_right (IsTabled u) (all_routes c) routes route known (in_at routes i route at) in
      (r.0, stands_at c r.0 r.1, r.2)

  -- and the route of the table that is at the path of a route of the configuration
  pub its_place : (q : List ℕ) (t : RouteTree) → route_at c.root q ≡ Some t
      → (route : TableRoute) × IsIn routes route × IsTabled u (q, t) route
  its_place q t at = zip_left (IsTabled u) (all_routes c) routes (q, t) known (listed c q t at)
