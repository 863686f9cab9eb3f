use Rattle.std.proofs.Common.{◌≡◌, ℕ}
use Rattle.am_config.specs.ConfigFile.{Configuration}
use Rattle.am_config.specs.RoutePaths.{all_routes}
use Rattle.am_judged_lists.specs.CubeSetView.{contains}
use Rattle.am_judged_lists.proofs.BlockLemmas.{is_before}
use Rattle.am_plans.specs.RouteGroups.{is_in_group, AreRoutesOf}
use Rattle.am_plans.proofs.route_groups.places_of.Given as goal

-- the places of the routes so far that are in the group
abbrev pub invariant-loop-i : goal.invariant-loop-i
invariant-loop-i l =
    (c : Configuration) → AreRoutesOf c l.routes
    → (k : ℕ) → contains l.places k ≡ is_before (is_in_group l.group) (all_routes c) l.i k
