use Rattle.std.proofs.Common.{◌≡◌, [], ◌∷◌, ◌++◌, length, map, string_bytes, option_map, Ok, refl, arith}
use Rattle.std.proofs.lemmas.Result.{err_from_is_err_and}
use Rattle.std.proofs.lemmas.List.{map_push, length-map}
use Rattle.serde_json.specs.View.{view}
use Rattle.am_universe.specs.UniverseView.{texts_of}
use Rattle.am_json.specs.Pointer.{to_item}
use Rattle.am_json.specs.Reading.{read_items}
use Rattle.am_list_files.specs.UniverseForm.{next_value_form}
use Rattle.am_list_files.specs.SeenValues.{AreSeen}
use Rattle.am_json.proofs.Readings.{leads-refl, within_gives, within_if_ok}
use Rattle.am_json.proofs.Items.{item_goes_on, item_ends, items_done}
use Rattle.am_list_files.proofs.universe_file.read_each_value.Goals as goal

pub loop-item-init : goal.loop-item-init
loop-item-init c =
    rw c.new-values.ensures.items (record {
      leads = leads-refl (read_items next_value_form [] (map view c.args.items.now));
      seen = λ value. rw c.new-seen.ensures.empty refl;
    })

pub returns-in_err-next : goal.returns-in_err-next
returns-in_err-next c =
    let l = c.loop-item in
    let before = texts_of l.values.items in
    let part : c.len.result ≡ length before =
    omega (arith, c.len.ensures, l.values.ok.0, length-map l.values.items (option_map string_bytes)) in
    let fails =
    within_gives (option_map string_bytes) (to_item (length before)) c.read_next_value-found.result _
    (next_value_form before (view c.item-item.result))
    (c.read_next_value-found.ensures.reading before l.invariant.seen)
    (rw part at c.in_err-next.ensures.within) in
    let p = err_from_is_err_and c.from_residual.result c.from_residual.ensures.1 in
    rw (p.1, p.2) (item_ends view next_value_form c.in_err-next.field-0.0 before
    c.args.items.now l.item-index c.item-item.result _ c.loop-item-test.true c.item-item.is
    fails l.invariant.leads)

pub loop-item-preserved : goal.loop-item-preserved
loop-item-preserved c =
    let l = c.loop-item in
    let value = c.in_ok-next.next in
    let before = texts_of l.values.items in
    let part : c.len.result ≡ length before =
    omega (arith, c.len.ensures, l.values.ok.0, length-map l.values.items (option_map string_bytes)) in
    let next =
    within_gives (option_map string_bytes) (to_item (length before)) c.read_next_value-found.result _
    (next_value_form before (view c.item-item.result))
    (c.read_next_value-found.ensures.reading before l.invariant.seen)
    (rw part at c.in_ok-next.ensures.within) in
    let e : texts_of c.push.new.self.items ≡ before ++ option_map string_bytes value ∷ [] =
    rw c.in_ok-push.ensures.items (map_push _ l.values.items value) in
    let seen =
    within_if_ok (to_item (length before)) c.read_next_value-found.result (Ok value)
    (λ v. AreSeen c.read_next_value-found.new.seen (before ++ option_map string_bytes v ∷ []))
    (c.read_next_value-found.ensures.seen before l.invariant.seen)
    (rw part at c.in_ok-next.ensures.within) in
    rw e (record {
      leads = item_goes_on view next_value_form before c.args.items.now l.item-index
          c.item-item.result (option_map string_bytes value) _ c.loop-item-test.true
          c.item-item.is next l.invariant.leads;
      seen = seen;
    })

pub returns : goal.returns
returns c =
    items_done view next_value_form (texts_of c.loop-item.values.items) c.args.items.now
    c.loop-item.item-index _ c.loop-item-test.false c.loop-item.invariant.leads
