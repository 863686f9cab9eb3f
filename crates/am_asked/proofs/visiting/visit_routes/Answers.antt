use Rattle.std.proofs.Common.{◌<◌, length, fold, ap, ◌∙◌, arith}
use Rattle.am_config.specs.ConfigView.{config_view}
use Rattle.am_config.specs.RoutePaths.{all_routes}
use Rattle.am_config.specs.RouteView.{route_view}
use Rattle.am_config.proofs.RouteLists.{listed_at}
use Rattle.am_asked.specs.Placed.{placed_at}
use Rattle.am_complete.specs.declared.origin.Origin.TheVariants as origin_is
use Rattle.am_asked.proofs.PlacedSteps.{one_more_route}
use Rattle.am_asked.proofs.visiting.visit_routes.Goals as goal

pub loop-i-preserved : goal.loop-i-preserved
loop-i-preserved g c =
    let all = all_routes (config_view c.args.config.now) in
    let listed = c.in_ok-listed.listed in
    let i = c.loop-i.i in
    let path = c.index.result.now in
    let route = c.index-in-loop-i.result.now in
    let lt : i < length listed.paths.items = omega (arith, c.len-i-end.ensures, c.loop-i-test.true) in
    let there = listed_at all listed i path route c.in_ok-listed.ensures.routes lt c.index.ensures
    c.index-in-loop-i.ensures in
    one_more_route g.V.Visitor.after all i (path, route_view route.now) c.loop-i.visitor _ _ there
    (c.in_ok-visit_matchers.ensures.visit
    ∙ ap (λ ms. fold g.V.Visitor.after c.loop-i.visitor (placed_at (origin_is.Route path) ms))
    c.matchers.ensures.matchers)
    c.loop-i.invariant
