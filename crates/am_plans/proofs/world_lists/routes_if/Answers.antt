use Rattle.am_plans.proofs.RouteMade.{are_routes}
use Rattle.am_plans.proofs.world_lists.routes_if.Goals as goal

pub returns : goal.returns
returns c = record {
  routes = λ needed w prefix listed admitted.
      are_routes c.args.universe.now prefix admitted w listed.few c.in_ok-of.field-0
      (c.in_ok-of.ensures.lists w.config listed);
}
