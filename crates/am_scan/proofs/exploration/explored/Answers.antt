-- One more row.
use Rattle.std.proofs.Common.{◌≡◌, ◌<◌, length, slice_get, Some, subst, arith}
use Rattle.am_scan.specs.Automaton.{IsRow}
use Rattle.am_scan.proofs.Places.{grows_within, grown_back, rows_pushed}
use Rattle.am_scan.proofs.AutomatonLemmas.{IsRow_kept}
use Rattle.am_scan.proofs.exploration.explored.Goals as goal

pub loop-at-preserved : goal.loop-at-preserved
loop-at-preserved c =
    let scan = c.args.scan.now in
    let columns = c.args.columns.now.columns.items in
    let h = c.loop-at.invariant in
    let old = c.loop-at.states.keys in
    let new = c.row.new.states.keys in
    let rows = c.loop-at.rows in
    let at = c.loop-at.at in
    let grows = rw c.in-Some.is at c.in_ok-row.ensures.grows in
    let inside : at < length old = omega (arith, c.len.ensures.len, c.if-at-len.false, h.within) in
    let within = grows_within old new at grows inside in
    let count : length rows.items ≡ at = omega (arith, rows.ok.0, h.count) in
    let row = rw c.in-Some.is at c.in_ok-row.ensures.row in
    record {
      within = omega arith;
      some = omega arith;
      count = grind (arith, c.in_ok-push.ensures.items, h.count);
      first = λ state here. h.first state (grown_back old new 0 state grows (omega arith) here);
      each = rows_pushed (IsRow scan columns new) old new rows.items c.push.new.self.items c.in-Some.row grows (omega (arith, count)) c.in_ok-push.ensures.items
          (λ k state one here there. IsRow_kept scan columns old new state one grows (h.each k state one here there))
          (λ state here. row state (subst (λ i. slice_get old i ≡ Some state) count here));
    }
