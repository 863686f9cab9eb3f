-- One more state is looked at.
use Rattle.std.proofs.Common.{◌∙◌, ap, ap₂, sym, ◌||◌, arith}
use Rattle.am_scan.specs.Arrivals.{froms}
use Rattle.am_scan.specs.Closure.{contains}
use Rattle.am_scan.proofs.ArrivalLemmas.{at_read, accepted_more, refused_more}
use Rattle.am_scan.proofs.arrivals.sources.Goals as goal
use Rattle.am_scan.proofs.arrivals.sources.Goals.{then-is_accepted+in_ok-push_sources, else-is_accepted}

pub loop-state-init : goal.loop-state-init
loop-state-init c = record {
  count = c.in_ok-sources.ensures.count;
  each = λ k q within. ap (λ xs. contains xs q) (c.in_ok-sources.ensures.empty k);
}

pub loop-state-preserved : goal.loop-state-preserved
loop-state-preserved c =
    let h = c.loop-state.invariant in
    let arrivals = c.args.arrivals.now in
    let accepted = c.args.accepted.now in
    let n = c.loop-state.state in
    elim c.if-is_accepted.branch [
      | then-is_accepted+in_ok-push_sources w ↦
          rw w.sources-is (record {
            count = w.in_ok-push_sources.ensures.count ∙ h.count;
            each = λ k q within.
                w.in_ok-push_sources.ensures.each k q (omega (arith, within, h.count))
                ∙ ap₂ (λ x xs. x || contains (froms k xs) q) (h.each k q within) (w.as_slice.ensures.value ∙ sym (at_read arrivals n w.index-arrivals-state.result (omega (arith, c.requires, c.loop-state-test.true)) w.index-arrivals-state.is))
                ∙ accepted_more arrivals accepted k q n w.if-is_accepted.true;
          })
      | else-is_accepted w ↦
          rw w.sources-is (record {
            count = h.count;
            each = λ k q within. h.each k q within ∙ refused_more arrivals accepted k q n w.if-is_accepted.false;
          })
    ]
