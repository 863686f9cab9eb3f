-- The paths of all routes are exactly the paths that lead to a route.
use Rattle.std.proofs.Common.{◌≡◌, ◌≢◌, ◌↔◌, ℕ, zero, suc, ◌+◌, List, [], ◌∷◌, map}
use Rattle.std.proofs.Common.{Option, Some, None, refl, sym, ap, subst, ◌∙◌, inl, inr, arith}
use Rattle.std.proofs.Common.{Contains}
use Rattle.std.specs.Prelude.{slice_get}
use Rattle.std.proofs.lemmas.Option.{option_and_then_some}
use Rattle.std.proofs.lemmas.Grind.{common_steps}
use Rattle.am_universe.proofs.ListLemmas.{IsIn, IsIn-from_Contains, Contains-from_IsIn, IsIn-left}
use Rattle.am_universe.proofs.ListLemmas.{IsIn-right, IsIn-split, IsIn-map, IsIn-unmap}
use Rattle.am_config.specs.ConfigFile.{RouteTree, Routes, route, no_routes, next_route}
use Rattle.am_config.specs.ConfigFile.{Configuration}
use Rattle.am_config.specs.Path.{list_of, route_at}
use Rattle.am_config.specs.RoutePaths.{routes_at, paths_at, paths_of}
use Rattle.am_config.proofs.RouteLists.{paths_from, paths_next, each_at}

-- ---- A path below the children from a position on goes down to one of them.

abbrev pub IsBelow : ℕ → Routes → List ℕ → Type 0
IsBelow i ts path =
    (k : ℕ) × (t : RouteTree) × (rest : List ℕ) × (slice_get (list_of ts) k ≡ Some t)
    × (path ≡ (i + k) ∷ rest) × IsIn (paths_at t) rest

here : (i : ℕ) (t : RouteTree) (ts : Routes) (path : List ℕ)
    → IsIn (map (λ below. i ∷ below) (paths_at t)) path → IsBelow i (next_route t ts) path
here i t ts path h = grind (arith, common_steps, IsIn-unmap)

behind : (i : ℕ) (t : RouteTree) (ts : Routes) (path : List ℕ) → IsBelow (i + 1) ts path
    → IsBelow i (next_route t ts) path
behind i t ts path h =
    let at : (i + 1) + h.0 ≡ i + suc h.0 = omega arith in
    (suc h.0, h.1, h.2, h.3, h.4 ∙ ap (λ k. k ∷ h.2) at, h.5)

pub is_below : (i : ℕ) (ts : Routes) (path : List ℕ) → IsIn (paths_from i ts) path
    → IsBelow i ts path
is_below i no_routes path h = absurd h
is_below i (next_route t ts) path h =
    grind (arith, common_steps, IsIn-split, paths_from, paths_next, here, behind, is_below (i + 1) ts path)

-- and a path that goes down to one of them is among all paths
below_is : (i k : ℕ) (ts : Routes) (t : RouteTree) (rest : List ℕ)
    → slice_get (list_of ts) k ≡ Some t → IsIn (paths_at t) rest
    → IsIn (paths_from i ts) ((i + k) ∷ rest)
below_is i k no_routes t rest e h = absurd (cc)
below_is i zero (next_route u ts) t rest e h =
    let same : t ≡ u = cc in
    let at : i ≡ i + 0 = omega arith in
    let mapped = IsIn-map (λ below. i ∷ below) (paths_at u) rest
    (subst (λ (x : RouteTree). IsIn (paths_at x) rest) same h) in
    grind (arith, common_steps, paths_from, paths_next, IsIn-left)
below_is i (suc k) (next_route u ts) t rest e h =
    grind (arith, common_steps, paths_from, paths_next, IsIn-right, below_is (i + 1) k ts t rest e h)

-- ---- The paths are those of the routes.

pub leads : (t : RouteTree) (path : List ℕ) → IsIn (paths_at t) path
    → (u : RouteTree) × (route_at t path ≡ Some u)
leads t path h =
    let r = IsIn-unmap (λ (found : List ℕ × RouteTree). found.0) (routes_at [] t) path h in
    (r.0.1, ap (route_at t) (sym r.2) ∙ each_at t [] t refl r.0 r.1)

pub is_path : (t u : RouteTree) (path : List ℕ) → route_at t path ≡ Some u → IsIn (paths_at t) path
is_path (route settings children) u [] e = inl refl
is_path (route settings children) u (p ∷ path) e =
    option_and_then_some (λ child. route_at child path) (slice_get (list_of children) p) u e
    (λ child is further.
    let at : 0 + p ≡ p = omega arith in
    inr (subst (λ (n : ℕ). IsIn (paths_from 0 children) (n ∷ path)) at
    (below_is 0 p children child path is (is_path child u path further))))

is_some : {X : Type 0} (o : Option X) → o ≢ None → (x : X) × (o ≡ Some x)
is_some None some = absurd (some refl)
is_some (Some x) some = (x, refl)

pub paths_exactly : (c : Configuration) (path : List ℕ)
    → Contains (paths_of c) path ↔ (route_at c.root path ≢ None)
paths_exactly c path = (
  λ h none.
      let r = leads c.root path (IsIn-from_Contains (paths_of c) path h) in
      let both : None ≡ Some r.0 = sym none ∙ r.1 in cc,
  λ some.
      let r = is_some (route_at c.root path) some in
      Contains-from_IsIn (paths_of c) path (is_path c.root r.0 path r.1),
)
