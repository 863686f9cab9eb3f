-- The matchers of routes, each with its cube.
use Rattle.std.specs.Prelude.{◌≡◌, ℕ, List, [], ◌∷◌, Option, Some, None, slice_get, true, false}
use Rattle.std.specs.Global.{Vec}
use Rattle.std.specs.List.{AllByRecursion, AllZip}
use Rattle.am_universe.specs.Universe.{Label}
use Rattle.am_universe.specs.LabelSet.{LabelMap, label_set_of}
use Rattle.am_labels.specs.Matcher.{Matcher}
use Rattle.am_labels.specs.Space.{Space, IsChoiceOf}
use Rattle.am_config.specs.ConfigFile.{Configuration, matchers_of}
use Rattle.am_config.specs.RoutePaths.{all_routes}
use Rattle.am_judged_lists.specs.Cube.{IsCubeOf, matches}
use Rattle.am_first_sets.specs.declared.candidate.Candidate.{Candidate}
use Rattle.am_first_sets.specs.Literals.{hold_all}
use Rattle.am_route_alerts.specs.declared.matcher_cubes.KnownMatcher.{KnownMatcher}
use Rattle.am_route_alerts.specs.declared.matcher_cubes.MatcherCube.{MatcherCube}

-- A matcher with its cube over some labels; those of a list of matchers; and those of each route of
-- a configuration, in preorder.
abbrev pub IsMatcherCube : List Label → Matcher → MatcherCube → Type 0
IsMatcherCube u m found = (found.matcher.now ≡ m) × IsCubeOf u (m ∷ []) found.cube

abbrev pub AreCubesOf : List Label → List Matcher → List MatcherCube → Type 0
AreCubesOf u ms cubes = AllZip (IsMatcherCube u) ms cubes

abbrev pub AreCubesOfRoutes :
    List Label → Configuration → List (Vec MatcherCube) → Type 0
AreCubesOfRoutes u c cubes =
    AllZip (λ route found. AreCubesOf u (matchers_of route.1) found.items) (all_routes c) cubes

-- The matchers of the route at a position.
abbrev pub cubes_if_any : Option (Vec MatcherCube) → List MatcherCube
cubes_if_any None = []
cubes_if_any (Some found) = found.items

abbrev pub cubes_at : List (Vec MatcherCube) → ℕ → List MatcherCube
cubes_at cubes i = cubes_if_any (slice_get cubes i)

-- A matcher with the cube that it borrows; and each of some has a cube that is that of its matcher.
abbrev pub matcher_cube : KnownMatcher → MatcherCube
matcher_cube known = record { matcher = known.matcher; cube = known.cube.now }

abbrev pub AreEachCubes : List Label → List KnownMatcher → Type 0
AreEachCubes u matchers =
    AllByRecursion (λ known. IsCubeOf u (known.matcher.now ∷ []) known.cube.now) matchers

-- A label set of a space, by a choice of it at which some literals are true.
abbrev pub MeetsAll : Space → List Candidate → LabelMap → Type 0
MeetsAll s given set =
    (c : List ℕ) × IsChoiceOf s c × (hold_all c given ≡ true) × (set ≡ label_set_of s.labels c)

-- A matcher is the only one of some, and some choice of a space at which given literals are true
-- fails its cube.
abbrev pub IsOnlyNeeded : Space → List Candidate → List KnownMatcher → Matcher → Type 0
IsOnlyNeeded s given [] m = ⊥
IsOnlyNeeded s given (known ∷ []) m =
    (known.matcher.now ≡ m)
    × ((c : List ℕ) × IsChoiceOf s c × (hold_all c given ≡ true)
    × (matches known.cube.now c ≡ false))
IsOnlyNeeded s given (known ∷ other ∷ matchers) m = ⊥
