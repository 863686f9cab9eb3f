use Rattle.std.proofs.Common.{[], arith}
use Rattle.std.proofs.lemmas.Result.{IfOk-weaker}
use Rattle.am_config.specs.declared.routes.RouteList.{RouteList}
use Rattle.am_config.specs.ConfigView.{config_view}
use Rattle.am_config.specs.RoutePaths.{all_routes, AreListed}
use Rattle.am_plans.specs.RouteGroups.{AreRoutesOf}
use Rattle.am_plans.proofs.RoutesAsked.{count_at}
use Rattle.am_plans.proofs.plan.routes_of.Goals as goal

pub returns : goal.returns
returns c = record {
  routes =
      let config = config_view c.args.config.now in
      IfOk-weaker c.routes.result (AreListed (all_routes config)) (AreRoutesOf config)
      (λ (routes : RouteList) listed. record {
        listed = listed;
        few = omega (arith, count_at [] config.root, c.root-root.ensures.sound.routes_within_limit);
      }) c.routes.ensures.routes;
}
