use Rattle.std.proofs.Common.{◌≡◌, ◌≤◌, ◌-◌, List, length, ◌++◌, map, drop}
use Rattle.am_config.specs.ConfigFile.{route_count}
use Rattle.am_config.specs.RouteView.{route_view}
use Rattle.am_outcomes.specs.declared.steps.Step.{Step}
use Rattle.am_outcomes.specs.Steps.{AreSteps}
use Rattle.am_outcomes.proofs.StepLemmas.{GoesBelow}
use Rattle.am_outcomes.proofs.steps.+push_route.Given as goal

-- the steps of the last children are added, and lead to what is behind the route
abbrev pub invariant-loop-i : goal.invariant-loop-i
invariant-loop-i l = record {
  steps : AreSteps l.steps.items;
  first : l.first ≤ length l.steps.items;
  more : (more : List Step) × (l.steps.items ≡ l.fn.steps.items ++ more);
  goes : GoesBelow l.universe (map route_view (drop (length l.children - l.i) l.children))
      l.fn.steps.items l.behind l.steps.items l.first;
}

abbrev pub decreases-push_route : goal.decreases-push_route
decreases-push_route l = route_count (route_view l.route.now)
