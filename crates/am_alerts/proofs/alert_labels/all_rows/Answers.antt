use Rattle.std.proofs.Common.{◌++◌, ◌∷◌, ℕ, List, [], All, map, get_or, sym, ap, ◌∙◌, subst}
use Rattle.std.specs.Borrow.{Bor}
use Rattle.std.proofs.lemmas.List.{map_push, map_more}
use Rattle.std.proofs.lemmas.List.Elements.{All-push}
use Rattle.am_alerts.specs.declared.alert_labels.NameRows.{NameRows}
use Rattle.am_alerts.specs.AlertLabels.{AreNameRows}
use Rattle.am_alerts.proofs.alert_labels.all_rows.Goals as goal

abbrev none : Bor (List ℕ)
none = record { ref_ptr = (0, 0); now = [] }

pub loop-place-preserved : goal.loop-place-preserved
loop-place-preserved c =
    let labels = c.args.labels.now in
    let names = c.args.names.now in
    let place = c.loop-place.place in
    let rows = c.loop-place.rows.items in
    let one : NameRows = record {
      name = get_or names place none;
      range = c.range_of-range.result;
      rows = c.in_ok-rows_in.field-0;
    } in
    let text = λ (name : Bor (List ℕ)). name.now in
    let called = λ (known : NameRows). known.name.now in
    record {
      names = ap (map called) c.in_ok-push.ensures.items ∙ map_push called rows one
          ∙ ap (λ xs. xs ++ called one ∷ []) c.loop-place.invariant.names
          ∙ sym (map_more text names place none c.loop-place-test.true);
      rows = subst (All (AreNameRows labels)) (sym c.in_ok-push.ensures.items)
          (All-push (AreNameRows labels) rows one c.loop-place.invariant.rows
          (record { range = c.range_of-range.ensures.range; rows = c.in_ok-rows_in.ensures.rows }));
    }
