-- One more step.
use Rattle.std.proofs.Common.{◌∙◌, eqb, get_or, vec_len, arith}
use Rattle.am_scan.specs.Closure.{contains}
use Rattle.am_scan.proofs.ArrivalLemmas.{pushed_at, not_pushed, contains_pushed, next_arrival}
use Rattle.am_scan.proofs.arrivals.push_sources.Goals as goal
use Rattle.am_scan.proofs.arrivals.push_sources.Goals.{then-arrival-len+in_ok-push, else-arrival-len}

pub loop-arrival-preserved : goal.loop-arrival-preserved
loop-arrival-preserved c =
    let h = c.loop-arrival.invariant in
    let old = c.loop-arrival.sources in
    let arrivals = c.args.arrivals.now in
    let i = c.loop-arrival.arrival-index in
    let arrival = get_or arrivals i (record { class = 0; from = 0 }) in
    elim c.if-arrival-len.branch [
      | then-arrival-len+in_ok-push w ↦
          rw w.sources-is (record {
            count = h.count;
            each = λ k q within.
                pushed_at (λ xs. contains xs q) _ arrival.from (λ xs. contains_pushed q xs arrival.from) old.items arrival.class w.index_mut.result.now w.push.new.self
                (omega (arith, w.if-arrival-len.true, c.len.ensures, old.ok.0)) w.index_mut.ensures.value w.in_ok-push.ensures.items k
                ∙ rw (h.each k q within) (next_arrival arrivals i _ _ k q c.loop-arrival-test.true);
          })
      | else-arrival-len w ↦
          rw w.sources-is (record {
            count = h.count;
            each = λ k q within.
                not_pushed _ (eqb arrival.from q) k arrival.class (vec_len old) (omega (arith, h.count, within)) (omega (arith, w.if-arrival-len.false, c.len.ensures))
                ∙ rw (h.each k q within) (next_arrival arrivals i _ _ k q c.loop-arrival-test.true);
          })
    ]
