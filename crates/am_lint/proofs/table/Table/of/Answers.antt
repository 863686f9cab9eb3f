-- One more route stands in the table.
use Rattle.std.proofs.Common.{◌≡◌, ◌<◌, ◌≤◌, ◌+◌, ◌++◌, ◌∷◌, [], List, ℕ, length, take, refl, ap}
use Rattle.std.proofs.Common.{sym, subst, ◌∙◌, arith}
use Rattle.std.specs.List.{AllZip}
use Rattle.std.proofs.lemmas.List.{take_all, length-map}
use Rattle.am_config.specs.ConfigFile.{RouteTree}
use Rattle.am_config.specs.ConfigView.{config_view}
use Rattle.am_config.specs.RoutePaths.{all_routes}
use Rattle.am_config.specs.RouteView.{route_view}
use Rattle.am_config.proofs.RouteLists.{listed_at}
use Rattle.am_complete.proofs.Pushed.{one_longer}
use Rattle.am_lint.specs.declared.table.TableRoute.{TableRoute}
use Rattle.am_lint.specs.Table.{IsTabled}
use Rattle.std.proofs.lemmas.Slice.Zip.{all_zipped_more}
use Rattle.am_lint.proofs.table.Table.of.Goals as goal

pub loop-i-preserved : goal.loop-i-preserved
loop-i-preserved c =
    let u = c.args.space.now.labels in
    let all = all_routes (config_view c.args.config.now) in
    let listed = c.in_ok-listed.listed in
    let i = c.loop-i.i in
    let path = c.index.result.now in
    let t = route_view c.index-route.result.now.now in
    let lt : i < length listed.paths.items =
    omega (arith, c.len-i-end.ensures, c.loop-i-test.true) in
    let there = listed_at all listed i path c.index-route.result.now c.in_ok-listed.ensures.routes
    lt c.index.ensures c.index-route.ensures in
    let route : TableRoute =
    record {
      path = path;
      continues = c.continues.result;
      cube = c.in_ok-of.field-0;
      receiver = c.receiver.result;
    } in
    let is : IsTabled u (path, t) route = (
      refl,
      c.continues.ensures.continues,
      rw (c.universe.ensures.labels, c.matchers.ensures.matchers) at c.in_ok-of.ensures.exact,
      c.receiver.ensures.receiver,
    ) in
    subst (AllZip (IsTabled u) (take (i + 1) all)) (sym c.in_ok-push.ensures.items)
    (subst (λ (rs : List (List ℕ × RouteTree)). AllZip (IsTabled u) rs
    (c.loop-i.routes.items ++ route ∷ []))
    (one_longer all i (path, t) there)
    (all_zipped_more (IsTabled u) (take i all) c.loop-i.routes.items (path, t) route
    c.loop-i.invariant is))

pub returns-clause-knows : goal.returns-clause-knows
returns-clause-knows c =
    let all = all_routes (config_view c.args.config.now) in
    let listed = c.in_ok-listed.listed in
    let many : length listed.paths.items ≡ length all =
    ap length c.in_ok-listed.ensures.routes.paths ∙ length-map all (λ r. r.0) in
    let i = c.loop-i.i in
    let past : length all ≤ i = omega (arith, c.len-i-end.ensures, c.loop-i-test.false, many) in
    rw (c.in_ok-possible.ensures.space)
    (subst (λ (rs : List (List ℕ × RouteTree)). AllZip (IsTabled c.args.space.now.labels) rs
    c.loop-i.routes.items)
    (take_all i all past) c.loop-i.invariant)
