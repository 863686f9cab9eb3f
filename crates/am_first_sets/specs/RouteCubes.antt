-- The routes of a configuration as a tree of cubes, and the way to end at one of them.
use Rattle.std.specs.Prelude.{◌≡◌, ℕ, List, [], ◌∷◌, Bool, true, false, not, ◌&&◌, ◌||◌, Option}
use Rattle.std.specs.Prelude.{Some, None, slice_get, take, ⊤}
use Rattle.std.specs.List.{list_all}
use Rattle.std.proofs.Props.{props}
use Rattle.am_universe.specs.Universe.{Label, sizes}
use Rattle.am_universe.specs.Choice.{IsWhole}
use Rattle.am_config.specs.ConfigFile.{Configuration, RouteTree, Routes, route, no_routes}
use Rattle.am_config.specs.ConfigFile.{next_route}
use Rattle.am_judged_lists.specs.Cube.{MaskedLabels, verdict_at, matches}
use Rattle.am_judged_lists.specs.Verdicts.{verdict_of_list}
use Rattle.am_eval.specs.declared.reach.Reach.{Reach}
use Rattle.am_eval.specs.declared.reach.Reach.TheVariants.{Ends, Enters}
use Rattle.am_first_sets.specs.declared.route_cubes.Kin.{Kin}
use Rattle.am_first_sets.specs.declared.route_cubes.Kin.TheVariants.{EarlierSiblings, Children}
use Rattle.am_first_sets.specs.declared.route_cubes.RouteCubes.{RouteCubes}
use Rattle.am_first_sets.specs.declared.route_cubes.RouteCubes.TheViews.{out-RouteCubes}
use Rattle.am_first_sets.specs.declared.route_cubes.RouteWay.{RouteWay}
use Rattle.am_first_sets.specs.Meeting.{meets_cubes}

-- The cubes are those of a route and of all routes below it, or those of the children of a route.
-- At a choice, each cube says what the matchers of its route say; `continue` and the receiver are
-- those of the route.
abbrev mutual
  pub AreCubesOf : List Label → List ℕ → RouteTree → RouteCubes → Type 0
  AreCubesOf u choice (route settings children) r =
      (verdict_at (out-RouteCubes r).cube choice ≡ verdict_of_list u settings.matchers choice)
      × ((out-RouteCubes r).continues ≡ settings.continues)
      × ((out-RouteCubes r).receiver ≡ settings.receiver)
      × AreCubesOfEach u choice children (out-RouteCubes r).routes.items

  pub AreCubesOfEach : List Label → List ℕ → Routes → List RouteCubes → Type 0
  AreCubesOfEach u choice no_routes [] = ⊤
  AreCubesOfEach u choice no_routes (r ∷ rs) = ⊥
  AreCubesOfEach u choice (next_route t ts) [] = ⊥
  AreCubesOfEach u choice (next_route t ts) (r ∷ rs) =
      AreCubesOf u choice t r × AreCubesOfEach u choice ts rs

-- There is at most one proof of this.
mutual
  pub AreCubesOf-prop : (u : List Label) (choice : List ℕ) (t : RouteTree) (r : RouteCubes)
      → IsProp (AreCubesOf u choice t r)
  AreCubesOf-prop u choice (route settings children) r =
      hlevel (props, AreCubesOfEach-prop u choice children)

  AreCubesOfEach-prop : (u : List Label) (choice : List ℕ) (ts : Routes) (rs : List RouteCubes)
      → IsProp (AreCubesOfEach u choice ts rs)
  AreCubesOfEach-prop u choice no_routes [] = hlevel props
  AreCubesOfEach-prop u choice no_routes (r ∷ rs) = hlevel props
  AreCubesOfEach-prop u choice (next_route t ts) [] = hlevel props
  AreCubesOfEach-prop u choice (next_route t ts) (r ∷ rs) =
      hlevel (props, AreCubesOf-prop u choice t, AreCubesOfEach-prop u choice ts)

-- The cubes are those of the routes of a configuration.
abbrev pub KnowsRoutes : List Label → Configuration → RouteCubes → Type 0
KnowsRoutes u c routes =
    (choice : List ℕ) → IsWhole (sizes u) choice → AreCubesOf u choice c.root routes

-- Whether an alert gets from a route down to the route at a path, by two tests of cubes: whether it
-- matches, and whether it does not. It gets past a sibling that has `continue` or does not match.
-- At the end it may match no child, or nothing more is asked.
module _ (matched unmatched : MaskedLabels → Bool) where
  abbrev pub gets_past : RouteCubes → Bool
  gets_past r = (out-RouteCubes r).continues || unmatched (out-RouteCubes r).cube

  abbrev pub is_reached : Reach → List RouteCubes → Bool
  is_reached Ends children = list_all (λ r. unmatched (out-RouteCubes r).cube) children
  is_reached Enters children = true

  abbrev pub goes_into : (RouteCubes → Bool) → Option RouteCubes → Bool
  goes_into further None = false
  goes_into further (Some r) = matched (out-RouteCubes r).cube && further r

  abbrev pub reaches_by : Reach → RouteCubes → List ℕ → Bool
  reaches_by reach r [] = is_reached reach (out-RouteCubes r).routes.items
  reaches_by reach r (p ∷ path) =
      list_all gets_past (take p (out-RouteCubes r).routes.items)
      && goes_into (λ child. reaches_by reach child path)
      (slice_get (out-RouteCubes r).routes.items p)

-- A choice that matches a route gets down from there and ends at the route at a path.
abbrev pub ends_by : List ℕ → RouteCubes → List ℕ → Bool
ends_by choice r path =
    reaches_by (λ cube. matches cube choice) (λ cube. not (matches cube choice)) Ends r path

-- None of some routes matches a choice; earlier siblings with `continue` are ignored.
abbrev pub none_stops : Kin → List ℕ → List RouteCubes → Bool
none_stops EarlierSiblings choice rs =
    list_all (λ r. (out-RouteCubes r).continues || not (matches (out-RouteCubes r).cube choice)) rs
none_stops Children choice rs =
    list_all (λ r. not (matches (out-RouteCubes r).cube choice)) rs

-- There is a way, and a choice goes it: it matches each route that must match, and none of those
-- that must not.
abbrev pub is_gone : List ℕ → Option RouteWay → Bool
is_gone choice None = false
is_gone choice (Some way) = meets_cubes way.wanted.items way.unwanted.items choice

-- This is the way to end at the route at a path: a choice goes the way exactly if it matches the
-- first route and gets down from there.
abbrev pub IsWayToEnd : RouteCubes → List ℕ → Option RouteWay → Type 0
IsWayToEnd routes path way =
    (choice : List ℕ) → is_gone choice way
    ≡ (matches (out-RouteCubes routes).cube choice && ends_by choice routes path)
