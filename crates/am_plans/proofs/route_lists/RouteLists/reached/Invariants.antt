use Rattle.std.proofs.Common.{◌≡◌, ℕ, ◌&&◌, nat_lt}
use Rattle.am_eval.specs.declared.reach.Reach.TheVariants.{Ends, Enters}
use Rattle.am_judged_lists.specs.CubeSetView.{contains}
use Rattle.am_plans.specs.RoutesByWays.{reached_at}
use Rattle.am_plans.proofs.route_lists.RouteLists.reached.Given as goal

-- the routes so far that are reached
abbrev pub invariant-loop-i : goal.invariant-loop-i
invariant-loop-i l = record {
  entered : (k : ℕ) → contains l.entered k ≡ (nat_lt k l.i
      && reached_at (contains l.passing) (contains l.matched) Enters l.self.ways.items k);
  ended : (k : ℕ) → contains l.ended k ≡ (nat_lt k l.i
      && reached_at (contains l.passing) (contains l.matched) Ends l.self.ways.items k);
}
