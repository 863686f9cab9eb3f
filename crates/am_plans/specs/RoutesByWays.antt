-- Which routes a label set reaches, by the lists of the routes and the ways to them.
use Rattle.std.specs.Prelude.{◌≡◌, ℕ, List, map, slice_get, Bool, false, not, ◌&&◌, Option, Some}
use Rattle.std.specs.Prelude.{None, IsTrue}
use Rattle.am_universe.specs.Universe.{Label, sizes}
use Rattle.am_universe.specs.Choice.{admits}
use Rattle.am_config.specs.ConfigFile.{RouteTree, matchers_of}
use Rattle.am_eval.specs.declared.reach.Reach.{Reach}
use Rattle.am_eval.specs.declared.reach.Reach.TheVariants.{Ends, Enters}
use Rattle.am_judged_lists.specs.declared.certainty.Certainty.{Certainty}
use Rattle.am_judged_lists.specs.declared.certainty.Certainty.TheVariants.{May, Must}
use Rattle.am_judged_lists.specs.declared.cube_set.CubeSet.{CubeSet}
use Rattle.am_judged_lists.specs.Certainty.{passes, other}
use Rattle.am_judged_lists.specs.Cube.{MaskedLabels, verdict_at}
use Rattle.am_judged_lists.specs.Verdicts.{verdict_of_list}
use Rattle.am_judged_lists.specs.CubeSetView.{contains, is_subset, are_apart}
use Rattle.am_judged_lists.specs.Places.{is_at}
use Rattle.am_plans.specs.declared.route_lists.RouteWay.{RouteWay}
use Rattle.am_plans.specs.declared.route_lists.RouteLists.{RouteLists}
use Rattle.am_plans.specs.declared.route_lists.Reached.{Reached}
use Rattle.am_plans.specs.declared.route_lists.RoutesSeen.{RoutesSeen}
use Rattle.am_plans.specs.RouteGroups.{stands_on_way, stands_before, stands_below, IsGroup}

-- By two tests of routes, whether an alert matches them and whether it may match them: the alert
-- reaches the route at a place, which has this way.
abbrev pub enters_by : (ℕ → Bool) → (ℕ → Bool) → ℕ → RouteWay → Bool
enters_by passing matched i way =
    passing i
    && (is_subset (contains way.on_way) passing && are_apart (contains way.before) matched)

abbrev pub reaches_by : (ℕ → Bool) → (ℕ → Bool) → Reach → ℕ → RouteWay → Bool
reaches_by passing matched Enters i way = enters_by passing matched i way
reaches_by passing matched Ends i way =
    enters_by passing matched i way && are_apart (contains way.children) matched

abbrev pub reached_at : (ℕ → Bool) → (ℕ → Bool) → Reach → List RouteWay → ℕ → Bool
reached_at passing matched reach ways i = is_at (reaches_by passing matched reach i) ways i

-- Which lists pass at a prefix, by their indices.
abbrev pub passing_at : List ℕ → Certainty → List MaskedLabels → ℕ → Bool
passing_at prefix m lists = is_at (λ cube. passes m (verdict_at cube prefix)) lists

-- An alert reaches one of some routes: by the lists of all routes; by the sets of the routes that
-- it reaches; and by the lists, if they are there.
abbrev pub reaches_by_lists : List ℕ → RouteLists → Certainty → Reach → CubeSet → Bool
reaches_by_lists prefix lists m reach routes =
    not (are_apart (contains routes)
    (reached_at (passing_at prefix m lists.lists) (passing_at prefix (other m) lists.lists) reach
    lists.ways.items))

abbrev pub reached_of : RoutesSeen → Certainty → Reached
reached_of seen May = seen.may
reached_of seen Must = seen.must

abbrev pub set_of : Reached → Reach → CubeSet
set_of reached Enters = reached.entered
set_of reached Ends = reached.ended

abbrev pub seen_reaches : RoutesSeen → Certainty → Reach → CubeSet → Bool
seen_reaches seen m reach routes =
    not (are_apart (contains routes) (contains (set_of (reached_of seen m) reach)))

abbrev pub reaches_in : List ℕ → Option RouteLists → Certainty → Reach → CubeSet → Bool
reaches_in prefix None m reach routes = false
reaches_in prefix (Some lists) m reach routes = reaches_by_lists prefix lists m reach routes

abbrev pub seen_in : Option RoutesSeen → Certainty → Reach → CubeSet → Bool
seen_in None m reach routes = false
seen_in (Some seen) m reach routes = seen_reaches seen m reach routes

-- The way to the route at a path. The ways to all routes, in order. The lists of all routes, and
-- the ways to them.
pub record IsWayTo (all : List (List ℕ × RouteTree)) (path : List ℕ) (way : RouteWay) : Type 0 where
  pub on_way : IsGroup all (stands_on_way path) way.on_way
  pub before : IsGroup all (stands_before path) way.before
  pub children : IsGroup all (stands_below path) way.children

pub record AreListsOfRoutes (u : List Label) (all : List (List ℕ × RouteTree))
    (lists : RouteLists) : Type 0 where
  pub verdicts : (prefix : List ℕ) → IsTrue (admits (sizes u) prefix)
      → map (λ cube. verdict_at cube prefix) lists.lists
      ≡ map (λ found. verdict_of_list u (matchers_of found.1) prefix) all
  pub ways : (i : ℕ) (found : List ℕ × RouteTree) → slice_get all i ≡ Some found
      → (way : RouteWay) × (slice_get lists.ways.items i ≡ Some way) × IsWayTo all found.0 way
