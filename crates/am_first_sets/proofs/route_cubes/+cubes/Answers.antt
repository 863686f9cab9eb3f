use Rattle.std.proofs.Common.{arith}
use Rattle.am_config.proofs.RouteLists.{child_within}
use Rattle.am_first_sets.proofs.CubeEnds.{one_more}
use Rattle.am_first_sets.proofs.route_cubes.+cubes.Goals as goal

pub cubes_of_routes-of-requires : goal.cubes_of_routes-of-requires
cubes_of_routes-of-requires t c =
    let w = child_within c.args.routes.now c.loop-route.route-index c.route-item.result
    c.loop-route-test.true c.route-item.is in
    (omega (arith, c.decreases, w.counted), tt)

pub cubes_of_routes-loop-route-preserved : goal.cubes_of_routes-loop-route-preserved
cubes_of_routes-loop-route-preserved t c = λ prefix admitted.
    let u = c.args.universe.now in
    let i = c.loop-route.route-index in
    let route = c.route-item.result in
    one_more u prefix c.args.routes.now i route c.loop-route.cubes.items c.in_ok-of.field-0
    c.push.new.self.items c.loop-route-test.true c.route-item.is c.in_ok-push.ensures.items
    (c.loop-route.invariant prefix admitted) (c.in_ok-of.ensures.cubes prefix admitted)
