use Rattle.std.proofs.Common.{◌≡◌, ◌+◌, ◌-◌, ◌≤◌, [], ◌∷◌, ◌++◌, length, map, codes, arith}
use Rattle.std.proofs.lemmas.Result.{err_from_is_err_and}
use Rattle.std.proofs.lemmas.List.{map_push, length-map}
use Rattle.serde_json.specs.View.{view}
use Rattle.am_config.specs.declared.limits.TheConstants.{MAX_ROUTES}
use Rattle.am_config.specs.declared.route.Route.{fold-roll-Route}
use Rattle.am_json.specs.Pointer.{to_field, to_item}
use Rattle.am_json.specs.Reading.{read_items, Gives, IsReadingWithin}
use Rattle.am_config.specs.RouteView.{view_step, route_view, names_of}
use Rattle.am_config.specs.ConfigView.{parent_view, fields_view}
use Rattle.am_config.specs.ConfigFile.{RouteTree, routes_count, routes_of, route_count}
use Rattle.am_config.specs.ConfigForm.{next_child_form}
use Rattle.am_json.proofs.Readings.{leads-refl, within_gives, within_if_ok}
use Rattle.am_json.proofs.Items.{item_goes_on, item_ends, items_done}
use Rattle.am_config.proofs.Routing.{too_deep, fields_fail, children_fail, children_give}
use Rattle.am_config.proofs.Routing.{count_push}
use Rattle.am_config.proofs.ConfigSays.{fields_decide}
use Rattle.am_config.proofs.config_file.+routes.Goals as goal

pub read_route-returns-then-levels-eq0-clause-reads :
    goal.read_route-returns-then-levels-eq0-clause-reads
read_route-returns-then-levels-eq0-clause-reads t c =
    too_deep (names_of c.args.names.now) c.args.levels (parent_view c.args.parent) c.args.before
    (view c.args.value.now) c.refused.result c.if-levels-eq0.true c.refused.ensures.refusal

pub read_route-returns-in_err-settings-clause-reads :
    goal.read_route-returns-in_err-settings-clause-reads
read_route-returns-in_err-settings-clause-reads t c =
    let p = err_from_is_err_and c.from_residual.result c.from_residual.ensures.1 in
    rw (p.1, p.2) (fields_fail (names_of c.args.names.now) c.args.levels
    (parent_view c.args.parent) c.args.before (view c.args.value.now) c.in_err-settings.field-0.0
    c.if-levels-eq0.false c.in_err-settings.ensures)

pub read_route-read_routes-requires : goal.read_route-read_routes-requires
read_route-read_routes-requires t c = (
  omega (arith, c.decreases, c.if-levels-eq0.false),
  ((fields_decide (names_of c.args.names.now) (parent_view c.args.parent) c.args.before
      (view c.args.value.now)).says (fields_view c.in_ok-settings.field-0)
      c.in_ok-settings.ensures).room,
)

pub read_route-returns-in_err-routes-clause-reads :
    goal.read_route-returns-in_err-routes-clause-reads
read_route-returns-in_err-routes-clause-reads t c =
    let p = err_from_is_err_and c.from_residual-in_err-routes.result
    c.from_residual-in_err-routes.ensures.1 in
    let fields = fields_view c.in_ok-settings.field-0 in
    let m = read_items (next_child_form (names_of c.args.names.now) (c.args.levels - 1)
    fields.settings (c.args.before + 1)) [] fields.items in
    let g = within_gives (λ rs. map route_view rs.0.items) (to_field (codes "routes"))
    c.read_routes.result c.within_field.result m c.read_routes.ensures.reads
    c.within_field.ensures.within in
    rw (p.1, p.2) (children_fail (names_of c.args.names.now) c.args.levels
    (parent_view c.args.parent) c.args.before (view c.args.value.now) fields
    c.in_err-routes.field-0.0 c.if-levels-eq0.false c.in_ok-settings.ensures
    (rw c.in_err-routes.was at g))

pub read_route-returns-clause-reads : goal.read_route-returns-clause-reads
read_route-returns-clause-reads t c =
    let fields = fields_view c.in_ok-settings.field-0 in
    let m = read_items (next_child_form (names_of c.args.names.now) (c.args.levels - 1)
    fields.settings (c.args.before + 1)) [] fields.items in
    let g = within_gives (λ rs. map route_view rs.0.items) (to_field (codes "routes"))
    c.read_routes.result c.within_field.result m c.read_routes.ensures.reads
    c.within_field.ensures.within in
    rw (fold-roll-Route RouteTree view_step _)
    (children_give (names_of c.args.names.now) c.args.levels (parent_view c.args.parent)
    c.args.before (view c.args.value.now) fields
    (map route_view c.in_ok-routes.routes.items) c.if-levels-eq0.false c.in_ok-settings.ensures
    (rw c.in_ok-routes.was at g))

pub read_route-returns-clause-number : goal.read_route-returns-clause-number
read_route-returns-clause-number t c =
    let n = within_if_ok (to_field (codes "routes")) c.read_routes.result c.within_field.result
    (λ rs. (rs.1 ≡ (c.args.before + 1) + routes_count (routes_of (map route_view rs.0.items)))
    × (rs.1 ≤ MAX_ROUTES)) c.read_routes.ensures.number c.within_field.ensures.within in
    let m = rw c.in_ok-routes.was at n in
    (rw (fold-roll-Route RouteTree view_step _) (omega (arith, m.0)), m.1)

pub read_routes-loop-item-init : goal.read_routes-loop-item-init
read_routes-loop-item-init t c = rw c.new-routes.ensures.items (record {
  leads = leads-refl (read_items
      (next_child_form (names_of c.args.names.now) c.args.levels c.args.parent.now c.args.before) []
      (map view c.args.items.now));
  counted = omega arith;
  few = c.requires;
})

pub read_routes-read_route-found-requires : goal.read_routes-read_route-found-requires
read_routes-read_route-found-requires t c = (omega (arith, c.decreases), c.loop-item.invariant.few)

pub read_routes-returns-in_err-next-clause-reads :
    goal.read_routes-returns-in_err-next-clause-reads
read_routes-returns-in_err-next-clause-reads t c =
    let l = c.loop-item in
    let p = err_from_is_err_and c.from_residual.result c.from_residual.ensures.1 in
    let read =
    next_child_form (names_of c.args.names.now) c.args.levels c.args.parent.now c.args.before in
    let so_far = map route_view l.routes.items in
    let one : Gives (λ r. route_view r.0) c.read_route-found.result
    (read so_far (view c.item-item.result)) = rw (← l.invariant.counted)
    c.read_route-found.ensures.reads in
    let part : c.len.result ≡ length so_far =
    omega (arith, c.len.ensures, l.routes.ok.0, length-map l.routes.items route_view) in
    let seen : IsReadingWithin (to_item (length so_far)) c.read_route-found.result
    c.within_item.result = rw part at c.within_item.ensures.within in
    let g = within_gives (λ r. route_view r.0) (to_item (length so_far)) c.read_route-found.result
    c.within_item.result (read so_far (view c.item-item.result)) one seen in
    rw (p.1, p.2) (item_ends view read c.in_err-next.field-0.0 so_far c.args.items.now l.item-index
    c.item-item.result _ c.loop-item-test.true c.item-item.is (rw c.in_err-next.was at g)
    l.invariant.leads)

pub read_routes-loop-item-preserved : goal.read_routes-loop-item-preserved
read_routes-loop-item-preserved t c =
    let l = c.loop-item in
    let read =
    next_child_form (names_of c.args.names.now) c.args.levels c.args.parent.now c.args.before in
    let so_far = map route_view l.routes.items in
    let tree = route_view c.in_ok-next.next in
    let one : Gives (λ r. route_view r.0) c.read_route-found.result
    (read so_far (view c.item-item.result)) = rw (← l.invariant.counted)
    c.read_route-found.ensures.reads in
    let part : c.len.result ≡ length so_far =
    omega (arith, c.len.ensures, l.routes.ok.0, length-map l.routes.items route_view) in
    let seen : IsReadingWithin (to_item (length so_far)) c.read_route-found.result
    c.within_item.result = rw part at c.within_item.ensures.within in
    let g = within_gives (λ r. route_view r.0) (to_item (length so_far)) c.read_route-found.result
    c.within_item.result (read so_far (view c.item-item.result)) one seen in
    let n = within_if_ok (to_item (length so_far)) c.read_route-found.result c.within_item.result
    (λ r. (r.1 ≡ l.after + route_count (route_view r.0)) × (r.1 ≤ MAX_ROUTES))
    c.read_route-found.ensures.number seen in
    let m = rw c.in_ok-next.was at n in
    let e : map route_view c.push.new.self.items ≡ so_far ++ tree ∷ [] =
    rw c.in_ok-push.ensures.items (map_push route_view l.routes.items c.in_ok-next.next) in
    record {
      leads = rw e (item_goes_on view read so_far c.args.items.now l.item-index c.item-item.result
          tree _ c.loop-item-test.true c.item-item.is (rw c.in_ok-next.was at g)
          l.invariant.leads);
      counted = rw e (omega (arith, m.0, l.invariant.counted, count_push so_far tree));
      few = m.1;
    }

pub read_routes-returns-clause-reads : goal.read_routes-returns-clause-reads
read_routes-returns-clause-reads t c =
    items_done view (next_child_form (names_of c.args.names.now) c.args.levels c.args.parent.now
    c.args.before) (map route_view c.loop-item.routes.items) c.args.items.now
    c.loop-item.item-index _ c.loop-item-test.false c.loop-item.invariant.leads

pub read_routes-returns-clause-number : goal.read_routes-returns-clause-number
read_routes-returns-clause-number t c = (c.loop-item.invariant.counted, c.loop-item.invariant.few)
