-- One more symbol leads to a state.
use Rattle.std.proofs.Common.{sym, ◌∙◌, arith}
use Rattle.std.proofs.lemmas.Grind.{common_steps}
use Rattle.am_scan.specs.WildcardPlaces.{same_state}
use Rattle.am_scan.proofs.Places.{grows_inserted}
use Rattle.am_scan.proofs.WildcardStateLemmas.{same_items, reached_inserted, one_lead_more}
use Rattle.am_scan.proofs.wildcard_exploration.row.Goals as goal

pub loop-symbol-preserved : goal.loop-symbol-preserved
loop-symbol-preserved c =
    let ps = c.args.places.now in
    let h = c.loop-symbol.invariant in
    let old = c.loop-symbol.states.keys in
    let new = c.insert_full.new.self.keys in
    let found = c.in_ok-marked.marked in
    let keys = c.in_ok-number.ensures.keys in
    let grows = grows_inserted same_state old new found keys in
    let stored = c.in_ok-number.ensures.stored in
    let text = c.requires.of_text in
    record {
      grows = λ k state here. grows k state (h.grows k state here);
      reached = reached_inserted ps old new found _ keys h.reached (c.in_ok-marked.ensures text.0 text.1);
      few = grind (arith, common_steps, c.in_ok-number.ensures.len, h.few);
      count = grind (arith, common_steps, c.in_ok-push.ensures.items, h.count);
      leads = rw c.in_ok-push.ensures.items (one_lead_more ps c.args.symbols.now c.loop-symbol.next.items old new c.args.state.now c.in_ok-number.number c.loop-symbol.symbol-index
          h.count grows h.leads (λ text is. (stored.0, stored.1, sym (same_items found stored.0 stored.2) ∙ c.in_ok-marked.ensures text is)));
    }

pub returns-clause-row : goal.returns-clause-row
returns-clause-row c = record { found = c.any_matches-found.ensures; leads = λ k below. c.loop-symbol.invariant.leads k (omega (arith, c.loop-symbol-test.false)) }
