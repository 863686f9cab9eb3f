-- Why no alert enters a route, and why no alert that enters a route ends there: the routes that are
-- to blame, by their paths. They are enough, and each of them is needed.
use Rattle.std.specs.Prelude.{◌≡◌, ◌≢◌, ℕ, List, [], Contains, IsTrue, false, Some, ⊤}
use Rattle.std.specs.Cmp.Lexicographic.{slice_cmp}
use Rattle.std.specs.List.{AllByRecursion}
use Rattle.std.specs.List.Sorted.{IsStrictlySortedBy}
use Rattle.std.specs.Ordering.{nat_cmp}
use Rattle.am_universe.specs.LabelSet.{LabelMap}
use Rattle.am_config.specs.ConfigFile.{Configuration, RouteTree, continues_of}
use Rattle.am_config.specs.Path.{leads_through, route_at}
use Rattle.am_eval.specs.Routing.{MatchesAt}
use Rattle.am_lint.specs.Places.{stands_before, is_child_of}
use Rattle.am_eval.specs.Reaching.{Enters, SomeIs, NoneIs}

-- Some routes of one kind, by their paths, are the reason why no alert that meets a condition also
-- does something at each of them. They are in preorder, which is the order of paths, and none is
-- there twice. They are enough: no alert does. Each of them is needed: without it, some alert does.
-- Source: own choice; logic calls what is enough and needed in this way a minimal unsatisfiable
-- set.
-- Example: the children of a route are the reason why no alert that enters the route misses each of
-- them, if one has `severity="critical"` and the other has `severity!="critical"`.
pub record IsReasonWhy (Occurs : LabelMap → Type 0) (IsOfKind : List ℕ → Type 0)
    (First : LabelMap → Type 0) (Does : List ℕ → LabelMap → Type 0) (routes : List (List ℕ))
    : Type 0 where
  pub kind : AllByRecursion IsOfKind routes
  pub ordered : IsStrictlySortedBy (slice_cmp nat_cmp) routes
  pub enough : NoneIs Occurs
      (λ set. First set × ((q : List ℕ) → Contains routes q → Does q set))
  pub needed : (q : List ℕ) → Contains routes q → SomeIs Occurs
      (λ set. First set × ((o : List ℕ) → Contains routes o → o ≢ q → Does o set))

-- An alert matches the route at a path, or it does not.
abbrev pub Matches : Configuration → List ℕ → LabelMap → Type 0
Matches c q set = MatchesAt set c q

abbrev pub Misses : Configuration → List ℕ → LabelMap → Type 0
Misses c q set = MatchesAt set c q → ⊥

-- An alert matches each route on the way to a path, including the route at the path.
-- Source: Alertmanager configuration reference 0.25, "<route>".
-- Example: the routes on the way to `/2/0` are `/`, which every alert matches, `/2` and `/2/0`.
abbrev pub MatchesWay : Configuration → List ℕ → LabelMap → Type 0
MatchesWay c path set = (q : List ℕ) → IsTrue (leads_through q path) → Matches c q set

-- The route at a path lacks `continue`.
abbrev pub LacksContinue : Configuration → List ℕ → Type 0
LacksContinue c path =
    (t : RouteTree) × (route_at c.root path ≡ Some t) × (continues_of t ≡ false)

-- Each of some routes takes something: some alert that meets a condition enters it. So no earlier
-- sibling without `continue` takes this alert away.
-- Source: Alertmanager configuration reference 0.25, "<route>"; own choice.
-- Example: `/1` with `team="db"` takes nothing if `/0` has `team=~"d.*"` and no `continue`.
abbrev pub EachTakesSome :
    (LabelMap → Type 0) → Configuration → (LabelMap → Type 0) → List (List ℕ) → Type 0
EachTakesSome Occurs c First =
    AllByRecursion (λ q. SomeIs Occurs (λ set. First set × Enters c q set))

-- Routes on the way exclude each other: no alert matches all of them, but without any one of them
-- some alert matches the rest.
-- Source: own choice.
-- Example: the way to `/0/0` is excluded by `/0` and `/0/0` if these ask for `team="db"` and for
-- `team="web"`. If no alert occurs at all, it is excluded by an empty list of routes.
abbrev pub IsExcludedBy :
    (LabelMap → Type 0) → Configuration → List ℕ → List (List ℕ) → Type 0
IsExcludedBy Occurs c path =
    IsReasonWhy Occurs (λ q. IsTrue (leads_through q path)) (λ set. ⊤) (Matches c)

-- Each alert that matches the way is taken by one of these siblings first. Each sibling stands
-- before the route, or before a route on the way, and lacks `continue`. Each alert that matches the
-- way matches one of them. Without any one of them, some alert that matches the way matches none of
-- the rest. There is at least one sibling, so some alert does match the way. And each sibling is
-- entered by some alert that matches the way.
-- Source: own choice.
-- Example: `/2` with `team="db"` is taken by `/1` if that has `team=~"d.*"` and no `continue`.
abbrev pub IsTakenBy : (LabelMap → Type 0) → Configuration → List ℕ → List (List ℕ) → Type 0
IsTakenBy Occurs c path siblings =
    (siblings ≢ [])
    × IsReasonWhy Occurs (λ q. IsTrue (stands_before path q) × LacksContinue c q)
    (MatchesWay c path) (Misses c) siblings
    × EachTakesSome Occurs c (MatchesWay c path) siblings

-- Children take every alert that enters the route: each such alert matches one of them, and without
-- any one of them some alert enters the route and matches none of the rest. And each child is
-- entered by some alert, which enters the route then.
-- Source: Alertmanager configuration reference 0.25, "<route>"; own choice.
-- Example: a route hands on to its two children if one has `severity="critical"` and the other has
-- `severity!="critical"`.
abbrev pub IsHandedTo : (LabelMap → Type 0) → Configuration → List ℕ → List (List ℕ) → Type 0
IsHandedTo Occurs c path children =
    IsReasonWhy Occurs (λ q. IsTrue (is_child_of path q)) (Enters c path) (Misses c) children
    × EachTakesSome Occurs c (Enters c path) children
