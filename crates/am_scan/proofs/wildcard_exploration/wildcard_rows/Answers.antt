-- One more row.
use Rattle.std.proofs.Common.{◌≡◌, ℕ, slice_get, sym, subst, ap, ◌∙◌, arith}
use Rattle.std.specs.Global.{Vec}
use Rattle.std.proofs.lemmas.List.Elements.{same_from_all_zip}
use Rattle.std.proofs.lemmas.Option.{slice_get_within, same_Some}
use Rattle.std.proofs.lemmas.Grind.{common_steps}
use Rattle.am_scan.specs.WildcardPlaces.{IsRowOf}
use Rattle.am_scan.proofs.Places.{grows_within, grown_back, rows_pushed}
use Rattle.am_scan.proofs.WildcardStateLemmas.{row_kept}
use Rattle.am_scan.proofs.wildcard_exploration.wildcard_rows.Goals as goal

pub row-requires-clause-of_text : goal.row-requires-clause-of_text
row-requires-clause-of_text c =
    let key = c.index.result.now in
    let text = c.loop-at.invariant.reached c.loop-at.at key c.index.ensures in
    (text.0, c.as_slice.ensures.value ∙ same_from_all_zip _ key.items c.in_ok-state.state.items c.in_ok-state.ensures.cases.0 (λ x y same. same) ∙ text.1)

pub loop-at-preserved : goal.loop-at-preserved
loop-at-preserved c =
    let ps = c.args.places.now in
    let symbols = c.args.symbols.now in
    let h = c.loop-at.invariant in
    let at = c.loop-at.at in
    let old = c.loop-at.states.keys in
    let new = c.row.new.states.keys in
    let rows = c.loop-at.rows.items in
    let key = c.index.result.now in
    let grows = c.in_ok-row.ensures.grows in
    let inside = slice_get_within old at key c.index.ensures in
    let within = grows_within old new at grows inside in
    let cloned : c.as_slice.result.now ≡ key.items = c.as_slice.ensures.value ∙ same_from_all_zip _ key.items c.in_ok-state.state.items c.in_ok-state.ensures.cases.0 (λ x y same. same) in
    record {
      few = omega (arith, c.len-in-loop-at.ensures.len, c.if-len-gt-MAX_TEXT_STATES.false);
      within = omega (arith, within);
      count = grind (arith, common_steps, c.in_ok-push.ensures.items, h.count);
      unique = c.len-in-loop-at.ensures.unique;
      reached = c.in_ok-row.ensures.reached;
      some = omega (arith, within);
      first = λ state here. h.first state (grown_back old new 0 state grows h.some here);
      each = rows_pushed (λ (state : Vec ℕ) row. IsRowOf ps symbols new state.items row) old new rows c.push.new.self.items c.in_ok-row.field-0 grows (omega (arith, h.count, inside)) c.in_ok-push.ensures.items
          (λ k state row here there. row_kept ps symbols old new state.items row grows (h.each k state row here there))
          (λ state here. let state_is = cloned ∙ ap (λ (v : Vec ℕ). v.items) (same_Some key state (sym c.index.ensures ∙ ap (slice_get old) (sym h.count) ∙ here)) in
          subst (λ here. IsRowOf ps symbols new here c.in_ok-row.field-0) state_is c.in_ok-row.ensures.row);
    }
