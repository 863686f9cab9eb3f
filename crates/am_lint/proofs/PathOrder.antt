-- The paths of the routes are in strict order, as in a dictionary, and so are those of some
-- literals.
use Rattle.std.proofs.Common.{◌≡◌, ℕ, ◌+◌, List, [], ◌∷◌, Bool, map, drop}
use Rattle.std.proofs.Common.{zero, suc, refl, sym, subst, slice_get, inl, inr}
use Rattle.std.specs.Ordering.{nat_cmp}
use Rattle.std.specs.declared.cmp.Ordering.TheVariants.{Less}
use Rattle.std.specs.Cmp.Lexicographic.{slice_cmp}
use Rattle.std.specs.List.{AllByRecursion, AllZip, filter}
use Rattle.std.specs.List.Sorted.{IsStrictlySortedBy}
use Rattle.std.proofs.lemmas.Bool.{cases_Bool}
use Rattle.am_universe.specs.Universe.{Label}
use Rattle.am_universe.proofs.ListLemmas.{AllByRecursion-each}
use Rattle.am_config.specs.ConfigFile.{RouteTree, Routes, route, no_routes, next_route}
use Rattle.am_config.specs.ConfigFile.{Configuration}
use Rattle.am_config.specs.RoutePaths.{paths_at}
use Rattle.am_config.proofs.RouteLists.{paths_from, paths_next}
use Rattle.am_eval.proofs.FlatEnds.{below_ascend}
use Rattle.am_eval.proofs.RoutePathLaws.{is_below}
use Rattle.am_first_sets.specs.declared.candidate.Candidate.{Candidate}
use Rattle.am_first_sets.specs.Reason.{AreSameLiterals}
use Rattle.am_lint.specs.declared.literals.Part.{Part}
use Rattle.am_lint.specs.declared.table.TableRoute.{TableRoute}
use Rattle.am_lint.specs.Literals.{path_if_any, path_of, has_route, AddsPart}
use Rattle.am_lint.specs.Table.{IsTabled, IsTableOf}

abbrev pub Ascend : List (List ℕ) → Type 0
Ascend paths = IsStrictlySortedBy (slice_cmp nat_cmp) paths

-- ---- All paths.

mutual
  unfolding IsStrictlySortedBy

  paths_ascend : (t : RouteTree) → Ascend (paths_at t)
  paths_ascend (route settings children) = (
    AllByRecursion-each (λ y. slice_cmp nat_cmp [] y ≡ Less) (paths_from 0 children)
        (λ y there. subst (λ z. slice_cmp nat_cmp [] z ≡ Less)
        (sym (is_below 0 children y there).4) refl),
    children_ascend 0 children,
  )

  children_ascend : (i : ℕ) (ts : Routes) → Ascend (paths_from i ts)
  children_ascend i no_routes = tt
  children_ascend i (next_route t ts) =
      subst Ascend (sym (paths_next i t ts))
      (below_ascend i (paths_at t) (paths_from (i + 1) ts) (paths_ascend t)
      (children_ascend (i + 1) ts)
      (λ y there. let b = is_below (i + 1) ts y there in (b.0, b.2, b.4)))

-- ---- Some of them.

module _ {X : Type 0} (f : X → List ℕ) (test : X → Bool) where
  kept_all : (P : List ℕ → Type 0) (xs : List X) → AllByRecursion P (map f xs)
      → AllByRecursion P (map f (filter test xs))
  kept_all P [] all = tt
  kept_all P (x ∷ xs) all = elim (cases_Bool (test x)) [
    | inl passes ↦ rw passes (all.0, kept_all P xs all.1)
    | inr fails ↦ rw fails (kept_all P xs all.1)
  ]

  pub kept_ascend : (xs : List X) → Ascend (map f xs) → Ascend (map f (filter test xs))
  unfolding IsStrictlySortedBy
  kept_ascend [] up = tt
  kept_ascend (x ∷ xs) up = elim (cases_Bool (test x)) [
    | inl passes ↦ rw passes (
      kept_all (λ y. slice_cmp nat_cmp (f x) y ≡ Less) xs up.0,
      kept_ascend xs up.1,
    )
    | inr fails ↦ rw fails (kept_ascend xs up.1)
  ]

tabled_paths : (u : List Label) (found : List (List ℕ × RouteTree)) (routes : List TableRoute)
    → AllZip (IsTabled u) found routes → map (λ r. r.path) routes ≡ map (λ f. f.0) found
tabled_paths u [] [] h = refl
tabled_paths u (f ∷ found) (r ∷ routes) h = λ i. h.0.0 i ∷ tabled_paths u found routes h.1 i
tabled_paths u found routes h = absurd h

-- the literals of a part
pub part_ascends : (u : List Label) (c : Configuration) (routes : List TableRoute)
    → IsTableOf u c routes → (part : Part) (path : List ℕ) (old new : List Candidate)
    (adds : AddsPart routes part path routes old new) → Ascend (map (path_of routes) adds.more)
part_ascends u c routes known part path old new adds =
    subst Ascend (sym adds.paths)
    (kept_ascend (λ (r : TableRoute). r.path) (has_route part path) routes
    (subst Ascend (sym (tabled_paths u _ routes known)) (paths_ascend c.root)))

-- the same literals, whichever of them are named
pub paths_alike : (routes : List TableRoute) (n : ℕ) (ks ls : List Candidate)
    → AreSameLiterals ks ls
    → map (path_of routes) (drop n ks) ≡ map (path_of routes) (drop n ls)
paths_alike routes zero [] [] same = refl
paths_alike routes zero (k ∷ ks) (l ∷ ls) same =
    λ i. path_if_any (slice_get routes (same.0.2 i)) ∷ paths_alike routes zero ks ls same.1 i
paths_alike routes (suc n) [] [] same = refl
paths_alike routes (suc n) (k ∷ ks) (l ∷ ls) same = paths_alike routes n ks ls same.1
paths_alike routes n ks ls same = absurd same
