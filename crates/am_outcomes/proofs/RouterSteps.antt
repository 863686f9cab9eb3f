-- The routes that handle the alert of a choice, found by the cubes of the routes.
use Rattle.std.proofs.Common.{◌≡◌, ◌<◌, ℕ, zero, suc, true, false, cond, List, [], ◌∷◌, ◌++◌, map}
use Rattle.std.proofs.Common.{length, get_or, refl, ap, sym, ◌∙◌, subst₂, arith}
use Rattle.std.proofs.Common.{append_assoc, append-nil}
use Rattle.std.proofs.lemmas.List.{length-append}
use Rattle.am_universe.specs.Universe.{Label, sizes}
use Rattle.am_universe.specs.Choice.{IsWhole}
use Rattle.am_universe.specs.LabelSet.{LabelMap, label_set_of}
use Rattle.am_labels.specs.Matcher.{all_hold}
use Rattle.am_search.specs.Judge.{is_yes}
use Rattle.am_config.specs.ConfigFile.{RouteTree, route, routes_of, matchers_of, children_of}
use Rattle.am_config.specs.RouteView.{route_view}
use Rattle.am_config.specs.declared.route.Route.{Route}
use Rattle.am_judged_lists.specs.Cube.{verdict_at}
use Rattle.am_eval.specs.Routing.{is_last}
use Rattle.am_first_sets.specs.RouteCubes.{AreCubesOf, AreCubesOfEach}
use Rattle.am_first_sets.specs.declared.route_cubes.RouteCubes.{RouteCubes}
use Rattle.am_first_sets.specs.declared.route_cubes.RouteCubes.TheViews.{out-RouteCubes}
use Rattle.am_first_sets.proofs.CubeTruth.{certain_where}
use Rattle.am_outcomes.specs.Handling.{handlers_at, handlers_among, or_this}

module _ (u : List Label) (c : List ℕ) where
  -- ---- What the cubes say.

  pub said_by : IsWhole (sizes u) c → (t : RouteTree) (r : RouteCubes) → AreCubesOf u c t r
      → is_yes (verdict_at (out-RouteCubes r).cube c) ≡ all_hold (label_set_of u c) (matchers_of t)
  said_by whole (route settings children) r are =
      ap is_yes are.0 ∙ certain_where u c whole settings.matchers

  pub below_of : (t : RouteTree) (r : RouteCubes) → AreCubesOf u c t r
      → AreCubesOfEach u c (children_of t) (out-RouteCubes r).routes.items
  below_of (route settings children) r are = are.3

  -- there are cubes for each route, and they are its own
  pub as_many : (ts : List RouteTree) (rs : List RouteCubes)
      → AreCubesOfEach u c (routes_of ts) rs → length rs ≡ length ts
  as_many [] [] are = refl
  as_many [] (y ∷ rs) are = absurd are
  as_many (x ∷ ts) [] are = absurd are
  as_many (x ∷ ts) (y ∷ rs) are = ap suc (as_many ts rs are.1)

  pub own_of : (routes : List Route) (rs : List RouteCubes) (i : ℕ) (child : Route)
      (own : RouteCubes) → AreCubesOfEach u c (routes_of (map route_view routes)) rs
      → i < length routes → child ≡ get_or routes i child → own ≡ get_or rs i own
      → AreCubesOf u c (route_view child) own
  own_of [] rs i child own are lt at here = absurd (omega (arith, lt))
  own_of (x ∷ routes) [] i child own are lt at here = absurd are
  own_of (x ∷ routes) (y ∷ rs) zero child own are lt at here =
      subst₂ (λ (r : Route) (cubes : RouteCubes). AreCubesOf u c (route_view r) cubes)
      (sym at) (sym here) are.0
  own_of (x ∷ routes) (y ∷ rs) (suc i) child own are lt at here =
      own_of routes rs i child own are.1 (omega (arith, lt)) at here

module _ (s : LabelMap) where
  -- ---- A route.

  pub no_handlers : (t : RouteTree) → all_hold s (matchers_of t) ≡ false → handlers_at s t ≡ []
  no_handlers (route settings children) off =
      ap (λ b. cond b (or_this (route settings children) (handlers_among s children)) []) off

  matched_handlers : (t : RouteTree) → all_hold s (matchers_of t) ≡ true
      → handlers_at s t ≡ or_this t (handlers_among s (children_of t))
  matched_handlers (route settings children) on =
      ap (λ b. cond b (or_this (route settings children) (handlers_among s children)) []) on

  -- if no child has one, it is one itself
  pub added_itself : (t : RouteTree) (old more : List RouteTree)
      → all_hold s (matchers_of t) ≡ true → more ≡ old ++ handlers_among s (children_of t)
      → length more ≡ length old → more ++ t ∷ [] ≡ old ++ handlers_at s t
  added_itself t old more on is same =
      by (handlers_among s (children_of t)) refl
    where
      by : (below : List RouteTree) → handlers_among s (children_of t) ≡ below
          → more ++ t ∷ [] ≡ old ++ handlers_at s t
      by [] none =
          ap (λ xs. xs ++ t ∷ []) (is ∙ ap (λ xs. old ++ xs) none ∙ append-nil old)
          ∙ ap (λ xs. old ++ xs) (sym (matched_handlers t on ∙ ap (or_this t) none))
      by (b ∷ below) some =
          absurd (omega (
            arith,
            same,
            ap length (is ∙ ap (λ xs. old ++ xs) some),
            length-append old (b ∷ below),
          ))

  pub added_below : (t : RouteTree) (old more : List RouteTree)
      → all_hold s (matchers_of t) ≡ true → more ≡ old ++ handlers_among s (children_of t)
      → (length more ≡ length old → ⊥) → more ≡ old ++ handlers_at s t
  added_below t old more on is other =
      by (handlers_among s (children_of t)) refl
    where
      by : (below : List RouteTree) → handlers_among s (children_of t) ≡ below
          → more ≡ old ++ handlers_at s t
      by [] none =
          absurd (other (ap length (is ∙ ap (λ xs. old ++ xs) none ∙ append-nil old)))
      by (b ∷ below) some =
          is ∙ ap (λ xs. old ++ xs)
          (some ∙ sym (matched_handlers t on ∙ ap (or_this t) some))

  -- ---- Its children.

  -- what is still to be found at and below some children, behind what is found
  abbrev pub with_left : List RouteTree → List RouteTree → List RouteTree
  with_left found left = found ++ handlers_among s (routes_of left)

  pub goes_on : (found : List RouteTree) (t : RouteTree) (left all : List RouteTree)
      → is_last s t ≡ false → with_left found (t ∷ left) ≡ all
      → with_left (found ++ handlers_at s t) left ≡ all
  goes_on found t left all last so_far =
      append_assoc found (handlers_at s t) (handlers_among s (routes_of left))
      ∙ ap (λ b. found ++ (handlers_at s t ++ cond b [] (handlers_among s (routes_of left))))
      (sym last)
      ∙ so_far

  pub stops_there : (found : List RouteTree) (t : RouteTree) (left all : List RouteTree)
      → is_last s t ≡ true → with_left found (t ∷ left) ≡ all
      → found ++ handlers_at s t ≡ all
  stops_there found t left all last so_far =
      ap (λ xs. found ++ xs) (sym (append-nil (handlers_at s t)))
      ∙ ap (λ b. found ++ (handlers_at s t ++ cond b [] (handlers_among s (routes_of left))))
      (sym last)
      ∙ so_far
