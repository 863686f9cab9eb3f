-- The paths that are reported are in order.
use Rattle.std.proofs.Common.{◌≡◌, ℕ, ◌+◌, List, [], refl, sym, subst}
use Rattle.std.specs.Ordering.{nat_cmp}
use Rattle.std.specs.Cmp.Lexicographic.{slice_cmp}
use Rattle.std.specs.List.Sorted.{IsStrictlySortedBy}
use Rattle.std.specs.declared.cmp.Ordering.TheVariants.{Less}
use Rattle.am_universe.proofs.ListLemmas.{AllByRecursion-each}
use Rattle.am_config.specs.ConfigFile.{RouteTree, Routes, route, no_routes, next_route}
use Rattle.am_config.specs.RoutePaths.{paths_at}
use Rattle.am_config.proofs.RouteLists.{paths_from, paths_next}
use Rattle.am_eval.proofs.FlatEnds.{below_ascend}
use Rattle.am_eval.proofs.RoutePathLaws.{is_below}
use Rattle.am_search.proofs.ChoiceOrder.{Ascends}

mutual
  unfolding IsStrictlySortedBy

  pub paths_ascend : (t : RouteTree) → Ascends (paths_at t)
  paths_ascend (route settings children) = (
    AllByRecursion-each (λ y. slice_cmp nat_cmp [] y ≡ Less) (paths_from 0 children)
        (λ y i. let b = is_below 0 children y i in
        subst (λ (z : List ℕ). slice_cmp nat_cmp [] z ≡ Less) (sym b.4) refl),
    ascend_from 0 children,
  )

  ascend_from : (i : ℕ) (ts : Routes) → Ascends (paths_from i ts)
  ascend_from i no_routes = tt
  ascend_from i (next_route t ts) =
      subst (λ (paths : List (List ℕ)). Ascends paths) (sym (paths_next i t ts))
      (below_ascend i (paths_at t) (paths_from (i + 1) ts) (paths_ascend t) (ascend_from (i + 1) ts)
      (λ y b. let more = is_below (i + 1) ts y b in (more.0, more.2, more.4)))
