use Rattle.std.proofs.Common.{◌&&◌, ◌||◌, nat_eq, length, ap, sym, ◌∙◌, arith}
use Rattle.std.proofs.lemmas.List.{length-map}
use Rattle.am_config.specs.RoutePaths.{all_routes}
use Rattle.am_config.specs.RouteView.{route_view}
use Rattle.am_config.proofs.RouteLists.{listed_alike, listed_at}
use Rattle.am_judged_lists.proofs.BlockLemmas.{before_more, all_before}
use Rattle.am_plans.specs.RouteGroups.{is_in_group}
use Rattle.am_plans.proofs.route_groups.places_of.Goals as goal

pub loop-i-preserved : goal.loop-i-preserved
loop-i-preserved c = λ config are k.
    let all = all_routes config in
    let i = c.loop-i.i in
    let test = is_in_group c.args.group in
    let path = c.index.result.now in
    let route = c.index-in-loop-i.result.now in
    let here = listed_at all c.args.routes.now i path route are.listed
    (omega (arith, c.loop-i-test.true, c.min-i-end.ensures, c.min-count.ensures, c.len.ensures)) c.index.ensures c.index-in-loop-i.ensures in
    c.insert_if.ensures.inserted k
    ∙ (λ j. c.loop-i.invariant config are k j
    || (nat_eq k i && (c.has.ensures ∙ ap (λ p. test (p, route_view route.now)) c.steps.ensures.steps) j))
    ∙ sym (before_more test all i k (path, route_view route.now) here)

pub returns : goal.returns
returns c = λ config are k.
    let all = all_routes config in
    c.loop-i.invariant config are k
    ∙ all_before (is_in_group c.args.group) all c.loop-i.i k
    (omega (
      arith,
      are.few,
      c.loop-i-test.false,
      c.min-i-end.ensures,
      c.min-count.ensures,
      c.len.ensures,
      c.len-2.ensures,
      listed_alike all c.args.routes.now are.listed,
      ap length are.listed.paths,
      length-map all (λ found. found.0),
    ))
