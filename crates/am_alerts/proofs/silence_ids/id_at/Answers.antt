use Rattle.std.proofs.Common.{◌≡◌, Some, None, ap, sym, ◌∙◌}
use Rattle.std.specs.Prelude.{slice_get}
use Rattle.std.proofs.lemmas.Option.{slice_get-get_or, slice_get_past}
use Rattle.serde_json.specs.View.{view}
use Rattle.am_alerts.proofs.Ids.{some_item, no_item}
use Rattle.am_alerts.proofs.silence_ids.id_at.Goals as goal

pub returns-in-Some-get : goal.returns-in-Some-get
returns-in-Some-get c =
    let items = c.in-Some.items.now.items in
    let i = c.args.position in
    let item = c.in-Some-get.item.now in
    let at : slice_get items i ≡ Some item =
    ap (λ xs. slice_get xs i) (sym c.deref.ensures.value)
    ∙ slice_get-get_or c.deref.result.now i item c.in-Some-get.ensures.lookup.3.0
    ∙ ap Some (sym c.in-Some-get.ensures.lookup.1) in
    c.id_of.ensures
    ∙ sym (some_item (view c.args.value.now) items i item c.in-Some.ensures at)

pub returns-in-None : goal.returns-in-None
returns-in-None c =
    let items = c.in-Some.items.now.items in
    let i = c.args.position in
    let at : slice_get items i ≡ None =
    ap (λ xs. slice_get xs i) (sym c.deref.ensures.value)
    ∙ slice_get_past c.deref.result.now i c.in-None.ensures.lookup.3 in
    sym (no_item (view c.args.value.now) items i c.in-Some.ensures at)
