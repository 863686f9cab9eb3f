use Rattle.std.proofs.Common.{[], ◌∷◌, arith, length, length-append, refl}
use Rattle.std.specs.Fn.{FnReturnsAt}
use Rattle.std.proofs.lemmas.Fn.{says_at}
use Rattle.std.proofs.lemmas.Result.{err_from_is_err_and}
use Rattle.serde_json.specs.View.{view}
use Rattle.am_json.specs.Pointer.{to_item}
use Rattle.am_json.proofs.Items.{item_goes_on, item_ends, items_done}
use Rattle.am_json.proofs.Readings.{within_gives}
use Rattle.am_json.proofs.each_item.read_each_item.Goals as goal

pub returns-in_err-next-clause-reading : goal.returns-in_err-next-clause-reading
returns-in_err-next-clause-reading g c = λ reading gives.
    let l = c.loop-item in
    let p = err_from_is_err_and c.from_residual.result c.from_residual.ensures.1 in
    let at : FnReturnsAt g.F.Fn c.args.read c.item-item.result c.read-found.result =
    says_at g.F.Fn c.read-found.ensures refl in
    let fails =
    within_gives (λ x. x) (to_item (length l.all.items)) c.read-found.result _
    (reading (view c.item-item.result)) (gives c.item-item.result c.read-found.result at)
    (rw (c.len.ensures, l.all.ok.0) at c.in_err-next.ensures.within) in
    rw (p.1, p.2) (item_ends view (λ _ d. reading d) c.in_err-next.field-0.0 l.all.items
    c.args.items.now l.item-index c.item-item.result _ c.loop-item-test.true c.item-item.is fails
    (l.invariant.leads reading gives))

pub loop-item-preserved : goal.loop-item-preserved
loop-item-preserved g c =
    let l = c.loop-item in
    let more = length-append l.all.items (c.in_ok-next.next ∷ []) in
    rw c.in_ok-push.ensures.items (record {
      leads = λ reading gives.
          let at : FnReturnsAt g.F.Fn c.args.read c.item-item.result c.read-found.result =
          says_at g.F.Fn c.read-found.ensures refl in
          let next =
          within_gives (λ x. x) (to_item (length l.all.items)) c.read-found.result _
          (reading (view c.item-item.result)) (gives c.item-item.result c.read-found.result at)
          (rw (c.len.ensures, l.all.ok.0) at c.in_ok-next.ensures.within) in
          item_goes_on view (λ _ d. reading d) l.all.items c.args.items.now l.item-index
          c.item-item.result c.in_ok-next.next _ c.loop-item-test.true c.item-item.is next
          (l.invariant.leads reading gives);
      count = omega (arith, more, l.invariant.count);
    })

pub returns-clause-reading : goal.returns-clause-reading
returns-clause-reading g c = λ reading gives.
    items_done view (λ _ d. reading d) c.loop-item.all.items c.args.items.now
    c.loop-item.item-index _ c.loop-item-test.false (c.loop-item.invariant.leads reading gives)
