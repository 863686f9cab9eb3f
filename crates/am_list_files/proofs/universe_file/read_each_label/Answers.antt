use Rattle.std.proofs.Common.{[], ◌∷◌, ◌<◌, length, map, refl, length-append, arith}
use Rattle.std.proofs.lemmas.Result.{err_from_is_err_and}
use Rattle.serde_json.specs.View.{view}
use Rattle.am_universe.specs.declared.limits.TheConstants.{MAX_LABELS}
use Rattle.am_universe.specs.UniverseView.{label_of}
use Rattle.am_json.specs.Pointer.{to_item}
use Rattle.am_json.specs.Reading.{read_items}
use Rattle.am_list_files.specs.UniverseForm.{next_label_form}
use Rattle.am_json.proofs.Readings.{leads-refl, within_gives}
use Rattle.am_json.proofs.Items.{item_goes_on, item_ends, items_done}
use Rattle.am_list_files.proofs.UniverseSays.{no_fault_read}
use Rattle.am_list_files.proofs.universe_file.read_each_label.Goals as goal

pub loop-item-init : goal.loop-item-init
loop-item-init c = rw c.empty-universe.ensures.no_label (record {
  leads = leads-refl (read_items next_label_form [] (map view c.args.items.now));
  count = refl;
})

pub returns-in_err-next : goal.returns-in_err-next
returns-in_err-next c =
    let l = c.loop-item in
    let fails =
    within_gives (λ label. label_of label.0 label.1) (to_item (length l.universe))
    c.read_next_label-found.result _ (next_label_form l.universe (view c.item-item.result))
    c.read_next_label-found.ensures (rw c.len.ensures.len at c.in_err-next.ensures.within) in
    let p = err_from_is_err_and c.from_residual.result c.from_residual.ensures.1 in
    rw (p.1, p.2) (item_ends view next_label_form c.in_err-next.field-0.0 l.universe
    c.args.items.now l.item-index c.item-item.result _ c.loop-item-test.true c.item-item.is fails
    l.invariant.leads)

pub loop-item-preserved : goal.loop-item-preserved
loop-item-preserved c =
    let l = c.loop-item in
    let label = label_of c.in_ok-next.next.0 c.in_ok-next.next.1 in
    let next =
    within_gives (λ label. label_of label.0 label.1) (to_item (length l.universe))
    c.read_next_label-found.result _ (next_label_form l.universe (view c.item-item.result))
    c.read_next_label-found.ensures (rw c.len.ensures.len at c.in_ok-next.ensures.within) in
    rw c.in_ok-add_checked.ensures.ok (record {
      leads = item_goes_on view next_label_form l.universe c.args.items.now l.item-index
          c.item-item.result label _ c.loop-item-test.true c.item-item.is next l.invariant.leads;
      count = omega (arith, length-append l.universe (label ∷ []), l.invariant.count);
    })

-- the label that was read has no fault, and there is room for it
pub add_checked-requires : goal.add_checked-requires
add_checked-requires c =
    let l = c.loop-item in
    let next =
    within_gives (λ label. label_of label.0 label.1) (to_item (length l.universe))
    c.read_next_label-found.result _ (next_label_form l.universe (view c.item-item.result))
    c.read_next_label-found.ensures (rw c.len.ensures.len at c.in_ok-next.ensures.within) in
    let room : length l.universe < MAX_LABELS =
    omega (arith, l.invariant.count, c.loop-item-test.true, c.requires) in
    record {
      checked = no_fault_read l.universe (view c.item-item.result)
          (label_of c.in_ok-next.next.0 c.in_ok-next.next.1) room next;
    }

pub returns : goal.returns
returns c =
    items_done view next_label_form c.loop-item.universe c.args.items.now c.loop-item.item-index _
    c.loop-item-test.false c.loop-item.invariant.leads
