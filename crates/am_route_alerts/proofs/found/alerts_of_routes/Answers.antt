-- The next route of the table is found if its receiver is asked about, and passed over if not.
use Rattle.std.proofs.Common.{◌≡◌, ◌≤◌, ◌+◌, ℕ, List, Some, length, map, take, sym}
use Rattle.std.proofs.Common.{ap, ◌∙◌, subst, arith, slice_get, option_map, option_copied}
use Rattle.std.specs.Global.{Vec}
use Rattle.std.specs.List.{AllZip, filter}
use Rattle.std.proofs.lemmas.List.{take_all, map_push}
use Rattle.std.proofs.lemmas.Slice.Zip.{AllZip-long}
use Rattle.am_config.specs.ConfigFile.{Configuration, RouteTree, receiver_of}
use Rattle.am_config.specs.ConfigView.{config_view}
use Rattle.am_config.specs.Path.{route_at}
use Rattle.am_config.specs.RoutePaths.{all_routes}
use Rattle.am_complete.proofs.Pushed.{zip_right}
use Rattle.am_eval.specs.Reaching.{IsSetOf}
use Rattle.am_report_texts.proofs.PieceSteps.{item_here}
use Rattle.am_lint.specs.declared.table.TableRoute.{TableRoute}
use Rattle.am_lint.specs.Table.{IsTabled, IsTableOf, table_space, table_config}
use Rattle.am_lint.proofs.TableLemmas.{its_route}
use Rattle.am_route_alerts.specs.declared.found.RouteAlerts.{RouteAlerts}
use Rattle.am_route_alerts.specs.EndMatchers.{IsEnds}
use Rattle.am_route_alerts.specs.FoundView.{ends_view, route_alerts_view}
use Rattle.am_route_alerts.specs.RouteAlerts.{IsRouteAlerts, is_asked}
use Rattle.am_route_alerts.proofs.ZipLists.{zip_passed, zip_taken}
use Rattle.am_route_alerts.proofs.found.alerts_of_routes.Goals as goal
use Rattle.am_route_alerts.proofs.found.alerts_of_routes.Goals.{After-route-item}
use Rattle.am_route_alerts.proofs.found.alerts_of_routes.Goals.{then-is_asked+in_ok-ends_at+in_ok-push}
use Rattle.am_route_alerts.proofs.found.alerts_of_routes.Goals.{else-is_asked}

-- the next route of the table
next : (c : After-route-item) → slice_get c.in_ok-table.table.routes.items c.loop-route.route-index
    ≡ Some c.route-item.result
next c =
    ap (λ (xs : List TableRoute). slice_get xs c.loop-route.route-index)
    (sym c.deref-route-items.ensures.value)
    ∙ item_here c.deref-route-items.result.now c.loop-route.route-index c.route-item.result
    c.loop-route-test.true c.route-item.is

pub ends_at-requires-clause-there : goal.ends_at-requires-clause-there
ends_at-requires-clause-there c =
    let table = c.in_ok-table.table in
    let own = its_route (table_space table).labels (table_config table) table.routes.items
    c.in_ok-table.ensures.knows c.loop-route.route-index c.route-item.result
    (next (goal.at.ends_at-requires-clause-there c).After-route-item) in
    (own.0.1, ap (route_at (table_config table).root) own.2.0 ∙ own.1)

pub loop-route-preserved : goal.loop-route-preserved
loop-route-preserved c =
    let s = c.args.space.now in
    let config = config_view c.args.config.now in
    let receivers = option_copied c.args.receivers in
    let all = all_routes config in
    let tabled = c.in_ok-table.table.routes.items in
    let i = c.loop-route.route-index in
    let tabled_route = c.route-item.result in
    let known : IsTableOf s.labels config tabled =
    subst (λ (d : Configuration). IsTableOf s.labels d tabled) c.in_ok-table.ensures.config
    (rw c.in_ok-table.ensures.space at c.in_ok-table.ensures.knows) in
    let own = zip_right (IsTabled s.labels) all tabled i tabled_route known
    (next (goal.at.loop-route-preserved c).After-route-item) in
    let test = λ (route : List ℕ × RouteTree). is_asked receivers (receiver_of route.1) in
    let asked : test own.0 ≡ c.is_asked.result =
    ap (is_asked receivers) (sym own.2.3) ∙ sym c.is_asked.ensures in
    let before = map route_alerts_view c.loop-route.found.items in
    elim c.if-is_asked.branch [
      | then-is_asked+in_ok-ends_at+in_ok-push w ↦
          let found : RouteAlerts = record {
            path = tabled_route.path;
            receiver = tabled_route.receiver;
            ends = w.in_ok-ends_at.field-0;
          } in
          let is : IsRouteAlerts (IsSetOf s) config own.0 (route_alerts_view found) = (
            own.2.0,
            own.2.3,
            subst (λ (q : List ℕ).
                IsEnds (IsSetOf s) config q (option_map ends_view w.in_ok-ends_at.field-0))
                own.2.0
                (rw (c.in_ok-table.ensures.space, c.in_ok-table.ensures.config)
                at w.in_ok-ends_at.ensures.ends),
          ) in
          subst (AllZip (IsRouteAlerts (IsSetOf s) config) (filter test (take (i + 1) all)))
          (sym (ap (λ (v : Vec RouteAlerts). map route_alerts_view v.items) w.found-is
          ∙ ap (map route_alerts_view) w.in_ok-push.ensures.items
          ∙ map_push route_alerts_view c.loop-route.found.items found))
          (zip_taken (IsRouteAlerts (IsSetOf s) config) test all i own.0 before
          (route_alerts_view found) own.1 (asked ∙ w.if-is_asked.true) is c.loop-route.invariant)
      | else-is_asked w ↦
          subst (λ (v : Vec RouteAlerts). AllZip (IsRouteAlerts (IsSetOf s) config)
          (filter test (take (i + 1) all)) (map route_alerts_view v.items)) (sym w.found-is)
          (zip_passed (IsRouteAlerts (IsSetOf s) config) test all i own.0 before own.1
          (asked ∙ w.if-is_asked.false) c.loop-route.invariant)
    ]

pub returns : goal.returns
returns c =
    let table = c.in_ok-table.table in
    let config = config_view c.args.config.now in
    let all = all_routes config in
    let many : length table.routes.items ≡ length all =
    AllZip-long (IsTabled (table_space table).labels) (all_routes (table_config table))
    table.routes.items c.in_ok-table.ensures.knows
    ∙ ap (λ d. length (all_routes d)) c.in_ok-table.ensures.config in
    let past : length all ≤ c.loop-route.route-index =
    omega (arith, c.loop-route-test.false, many, ap length c.deref-route-items.ensures.value) in
    record {
      alerts = subst (λ (rs : List (List ℕ × RouteTree)).
          AllZip (IsRouteAlerts (IsSetOf c.args.space.now) config)
          (filter (λ route. is_asked (option_copied c.args.receivers) (receiver_of route.1)) rs)
          (map route_alerts_view c.loop-route.found.items))
          (take_all c.loop-route.route-index all past) c.loop-route.invariant;
    }
