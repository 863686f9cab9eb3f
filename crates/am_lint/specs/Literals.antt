-- The literals for a route. Each of them is about a route of the table.
use Rattle.std.specs.Prelude.{◌≡◌, ℕ, List, [], ◌++◌, map, length, Bool, true, false, not}
use Rattle.std.specs.Prelude.{◌&&◌, Option, Some, None, IsTrue, slice_get, drop}
use Rattle.std.specs.List.{AllByRecursion, filter}
use Rattle.am_labels.specs.Space.{Space, IsChoiceOf}
use Rattle.am_config.specs.Path.{leads_through}
use Rattle.am_first_sets.specs.declared.candidate.Candidate.{Candidate}
use Rattle.am_first_sets.specs.Reason.{AreSameLiterals, IsReason, EachFailsFirst}
use Rattle.am_lint.specs.declared.literals.Part.{Part}
use Rattle.am_lint.specs.declared.literals.Part.TheVariants.{Way, Before, Children}
use Rattle.am_lint.specs.declared.literals.Literals.{Literals}
use Rattle.am_lint.specs.declared.table.TableRoute.{TableRoute}
use Rattle.am_lint.specs.Places.{stands_before, is_child_of}

-- Whether an alert must match the routes of a part, and whether a route is one of these routes for
-- the route at a path.
abbrev pub is_wanted : Part → Bool
is_wanted Way = true
is_wanted Before = false
is_wanted Children = false

abbrev pub stands_in : Part → List ℕ → List ℕ → Bool → Bool
stands_in Way path other continues = leads_through other path
stands_in Before path other continues = not continues && stands_before path other
stands_in Children path other continues = is_child_of path other

abbrev pub has_route : Part → List ℕ → TableRoute → Bool
has_route part path route = stands_in part path route.path route.continues

-- The tag of a literal is the position of its route in the table. This is the path of that route.
abbrev pub path_if_any : Option TableRoute → List ℕ
path_if_any None = []
path_if_any (Some route) = route.path

abbrev pub path_of : List TableRoute → Candidate → List ℕ
path_of routes k = path_if_any (slice_get routes k.tag)

-- A literal is about a route of a part, and it is named.
abbrev pub IsAbout : List TableRoute → Part → List ℕ → Candidate → Type 0
IsAbout routes part path k =
    (route : TableRoute) × (slice_get routes k.tag ≡ Some route)
    × IsTrue (has_route part path route)
    × (k.cube.now ≡ route.cube) × (k.wanted ≡ is_wanted part) × IsTrue k.named

-- The literals of a part are added behind others. There is one about each route of the part among
-- those that were seen.
pub record AddsPart (routes : List TableRoute) (part : Part) (path : List ℕ)
    (seen : List TableRoute) (old new : List Candidate) : Type 0 where
  pub more : List Candidate
  pub adds : new ≡ old ++ more
  pub each : AllByRecursion (IsAbout routes part path) more
  pub paths : map (path_of routes) more
      ≡ map (λ route. route.path) (filter (has_route part path) seen)

-- The literals are those of each part, one part after another.
pub record AreLiterals (routes : List TableRoute) (path : List ℕ) (found : Literals) : Type 0 where
  pub on_way : List Candidate
  pub to_enter : List Candidate
  pub way : AddsPart routes Way path routes [] on_way
  pub before : AddsPart routes Before path routes on_way to_enter
  pub children : AddsPart routes Children path routes to_enter found.all.items
  pub many_on_way : found.on_way ≡ length on_way
  pub many_to_enter : found.to_enter ≡ length to_enter

-- The paths of the routes whose literals are named.
abbrev pub named_paths : List TableRoute → List Candidate → List (List ℕ)
named_paths routes ks = map (path_of routes) (filter (λ k. k.named) ks)

-- No choice of a space meets some literals, and these are the paths of the routes to blame: their
-- literals, and the first `n` before them, are a reason. And each of these routes takes something:
-- some choice fails its literal first.
abbrev pub AreBlamed : Space → List TableRoute → ℕ → List Candidate → List (List ℕ) → Type 0
AreBlamed s routes n all paths =
    (ks : List Candidate) × AreSameLiterals all ks × IsReason (IsChoiceOf s) n ks
    × (paths ≡ named_paths routes (drop n ks))

abbrev pub AreTakers : Space → List TableRoute → ℕ → List Candidate → List (List ℕ) → Type 0
AreTakers s routes n all paths =
    (blamed : AreBlamed s routes n all paths) × EachFailsFirst (IsChoiceOf s) n blamed.0
