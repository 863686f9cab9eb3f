use Rattle.std.proofs.Common.{◌≡◌, [], ◌∷◌, ◌++◌, length, string_bytes, arith}
use Rattle.std.proofs.lemmas.Result.{err_from_is_err_and}
use Rattle.std.proofs.lemmas.List.{map_push, length-map}
use Rattle.serde_json.specs.View.{view}
use Rattle.am_json.specs.Pointer.{to_item}
use Rattle.am_json.specs.Reading.{Gives}
use Rattle.am_config.specs.RouteView.{names_of}
use Rattle.am_json.proofs.Readings.{within_gives}
use Rattle.am_json.proofs.Items.{item_goes_on, item_ends, items_done}
use Rattle.am_config.proofs.config_file.read_each_name.Goals as goal

pub returns-in_err-next : goal.returns-in_err-next
returns-in_err-next g c = record {
  reading = λ reading gives.
      let l = c.loop-item in
      let p = err_from_is_err_and c.from_residual.result c.from_residual.ensures.1 in
      let before = names_of l.names.items in
      let part : c.len.result ≡ length before =
      omega (arith, c.len.ensures, l.names.ok.0, length-map l.names.items string_bytes) in
      let found : Gives string_bytes c.read-found.result (reading before (view c.item-item.result)) =
      rw c.as_slice.ensures.value at (gives _ _ c.read-found.result c.read-found.ensures) in
      let fails =
      within_gives string_bytes (to_item (length before)) c.read-found.result _
      (reading before (view c.item-item.result)) found (rw part at c.in_err-next.ensures.within) in
      rw (p.1, p.2) (item_ends view reading c.in_err-next.field-0.0 before c.args.items.now
      l.item-index c.item-item.result _ c.loop-item-test.true c.item-item.is fails
      (l.invariant reading gives));
}

pub loop-item-preserved : goal.loop-item-preserved
loop-item-preserved g c = λ reading gives.
    let l = c.loop-item in
    let name = c.in_ok-next.next in
    let before = names_of l.names.items in
    let part : c.len.result ≡ length before =
    omega (arith, c.len.ensures, l.names.ok.0, length-map l.names.items string_bytes) in
    let found : Gives string_bytes c.read-found.result (reading before (view c.item-item.result)) =
    rw c.as_slice.ensures.value at (gives _ _ c.read-found.result c.read-found.ensures) in
    let next =
    within_gives string_bytes (to_item (length before)) c.read-found.result _
    (reading before (view c.item-item.result)) found (rw part at c.in_ok-next.ensures.within) in
    let e : names_of c.push.new.self.items ≡ before ++ string_bytes name ∷ [] =
    rw c.in_ok-push.ensures.items (map_push _ l.names.items name) in
    rw e (item_goes_on view reading before c.args.items.now l.item-index c.item-item.result
    (string_bytes name) _ c.loop-item-test.true c.item-item.is next (l.invariant reading gives))

pub returns : goal.returns
returns g c = record {
  reading = λ reading gives.
      items_done view reading (names_of c.loop-item.names.items) c.args.items.now
      c.loop-item.item-index _ c.loop-item-test.false (c.loop-item.invariant reading gives);
}
