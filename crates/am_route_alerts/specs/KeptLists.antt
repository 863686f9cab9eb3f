-- What is kept of the matchers of the routes that literals are about.
use Rattle.std.specs.Prelude.{List, map}
use Rattle.std.specs.Global.{Vec}
use Rattle.std.specs.List.{AllZip, filter}
use Rattle.am_labels.specs.Matcher.{Matcher}
use Rattle.am_labels.specs.Space.{Space}
use Rattle.am_first_sets.specs.declared.candidate.Candidate.{Candidate}
use Rattle.am_route_alerts.specs.declared.matcher_cubes.MatcherCube.{MatcherCube}
use Rattle.am_route_alerts.specs.MatcherCubes.{MeetsAll, cubes_at}
use Rattle.am_route_alerts.specs.Shortened.{IsShortened}

-- A list is what is kept of the matchers of the route that a literal is about, for the label sets
-- of a space that meet given literals. Some lists are those of the named ones of some literals.
abbrev pub IsKeptList : Space → List (Vec MatcherCube) → List Candidate → Candidate → List Matcher
    → Type 0
IsKeptList s cubes given k list =
    IsShortened (MeetsAll s given) (map (λ m. m.matcher.now) (cubes_at cubes k.tag)) list

abbrev pub AreKeptLists : Space → List (Vec MatcherCube) → List Candidate → List Candidate
    → List (List Matcher) → Type 0
AreKeptLists s cubes given ks lists =
    AllZip (IsKeptList s cubes given) (filter (λ k. k.named) ks) lists
