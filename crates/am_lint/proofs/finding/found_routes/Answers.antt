-- One more route is found, as it stands in the table.
use Rattle.std.proofs.Common.{◌≡◌, ◌≤◌, ◌+◌, ◌++◌, ◌∷◌, [], List, ℕ, length, take, Some, None, sym, ap}
use Rattle.std.proofs.Common.{◌∙◌, subst, refl, arith, slice_get}
use Rattle.std.specs.List.{AllByRecursion, AllZip}
use Rattle.std.proofs.lemmas.List.{take_all}
use Rattle.std.proofs.lemmas.Slice.Zip.{all_zipped_more, AllZip-long}
use Rattle.am_universe.proofs.DistinctLists.{all_push}
use Rattle.am_config.specs.ConfigFile.{Configuration, RouteTree}
use Rattle.am_config.specs.Path.{route_at}
use Rattle.am_config.specs.ConfigView.{config_view}
use Rattle.am_config.specs.RoutePaths.{all_routes}
use Rattle.am_complete.proofs.Pushed.{one_longer, zip_right}
use Rattle.am_eval.specs.Reaching.{IsSetOf}
use Rattle.am_report_texts.proofs.PieceSteps.{item_here}
use Rattle.am_lint.specs.declared.found.FoundRoute.{FoundRoute}
use Rattle.am_lint.specs.declared.table.TableRoute.{TableRoute}
use Rattle.am_lint.specs.FoundView.{IsFoundIn}
use Rattle.am_lint.specs.Arrival.{IsArrival}
use Rattle.am_lint.specs.Table.{IsTabled, IsTableOf, table_space, table_config}
use Rattle.am_lint.proofs.TableLemmas.{its_route}
use Rattle.am_lint.proofs.finding.found_routes.Goals as goal
use Rattle.am_lint.proofs.finding.found_routes.Goals.{After-route-item}

-- the next route of the table
next : (c : After-route-item) → slice_get c.in_ok-table.table.routes.items c.loop-route.route-index
    ≡ Some c.route-item.result
next c =
    ap (λ (xs : List TableRoute). slice_get xs c.loop-route.route-index)
    (sym c.deref-route-items.ensures.value)
    ∙ item_here c.deref-route-items.result.now c.loop-route.route-index c.route-item.result
    c.loop-route-test.true c.route-item.is

pub arrival_of-requires-clause-there : goal.arrival_of-requires-clause-there
arrival_of-requires-clause-there c =
    let table = c.in_ok-table.table in
    let own = its_route (table_space table).labels (table_config table) table.routes.items
    c.in_ok-table.ensures.knows c.loop-route.route-index c.route-item.result
    (next (goal.at.arrival_of-requires-clause-there c).After-route-item) in
    (own.0.1, ap (route_at (table_config table).root) own.2.0 ∙ own.1)

pub loop-route-preserved : goal.loop-route-preserved
loop-route-preserved c =
    let s = c.args.space.now in
    let config = config_view c.args.config.now in
    let all = all_routes config in
    let tabled = c.in_ok-table.table.routes.items in
    let i = c.loop-route.route-index in
    let route = c.route-item.result in
    let known : IsTableOf s.labels config tabled =
    subst (λ (d : Configuration). IsTableOf s.labels d tabled) c.in_ok-table.ensures.config
    (rw c.in_ok-table.ensures.space at c.in_ok-table.ensures.knows) in
    let own = zip_right (IsTabled s.labels) all tabled i route known
    (next (goal.at.loop-route-preserved c).After-route-item) in
    let found : FoundRoute = record {
      path = route.path;
      receiver = route.receiver;
      ordinary = c.in_ok-arrival_of.field-0;
      every = None;
    } in
    let is : IsFoundIn s config own.0 found = (
      own.2.0,
      own.2.3,
      subst (λ (q : List ℕ). IsArrival s.labels (IsSetOf s) config q c.in_ok-arrival_of.field-0)
          own.2.0
          (rw (c.in_ok-table.ensures.space, c.in_ok-table.ensures.config)
          at c.in_ok-arrival_of.ensures.arrival),
    ) in
    record {
      found = subst (AllZip (IsFoundIn s config) (take (i + 1) all))
          (sym c.in_ok-push.ensures.items)
          (subst (λ (rs : List (List ℕ × RouteTree)).
          AllZip (IsFoundIn s config) rs (c.loop-route.found.items ++ found ∷ []))
          (one_longer all i own.0 own.1)
          (all_zipped_more (IsFoundIn s config) (take i all) c.loop-route.found.items own.0 found
          c.loop-route.invariant.found is));
      once = subst (AllByRecursion (λ (r : FoundRoute). r.every ≡ None))
          (sym c.in_ok-push.ensures.items)
          (all_push (λ (r : FoundRoute). r.every ≡ None) c.loop-route.found.items found
          c.loop-route.invariant.once refl);
    }

pub returns : goal.returns
returns c =
    let table = c.in_ok-table.table in
    let config = config_view c.args.config.now in
    let all = all_routes config in
    let many : length table.routes.items ≡ length all =
    AllZip-long (IsTabled (table_space table).labels) (all_routes (table_config table))
    table.routes.items c.in_ok-table.ensures.knows
    ∙ ap (λ d. length (all_routes d)) c.in_ok-table.ensures.config in
    let past : length all ≤ c.loop-route.route-index =
    omega (arith, c.loop-route-test.false, many, ap length c.deref-route-items.ensures.value) in
    record {
      found = subst (λ (rs : List (List ℕ × RouteTree)).
          AllZip (IsFoundIn c.args.space.now config) rs c.loop-route.found.items)
          (take_all c.loop-route.route-index all past) c.loop-route.invariant.found;
      once = c.loop-route.invariant.once;
    }
