-- One more step.
use Rattle.std.proofs.Common.{◌&&◌, ◌∙◌, eqb, get_or, vec_len, arith}
use Rattle.am_scan.specs.Arrivals.{froms}
use Rattle.am_scan.specs.Closure.{contains}
use Rattle.am_scan.specs.declared.arrivals.Arrival.{Arrival}
use Rattle.am_scan.proofs.ArrivalLemmas.{pushed_at, not_pushed, froms_pushed, next_edge}
use Rattle.am_scan.proofs.arrivals.push_arrivals.Goals as goal
use Rattle.am_scan.proofs.arrivals.push_arrivals.Goals.{then-to-len+in_ok-push, else-to-len}

pub loop-edge-preserved : goal.loop-edge-preserved
loop-edge-preserved c =
    let h = c.loop-edge.invariant in
    let old = c.loop-edge.arrivals in
    let edges = c.args.edges.now in
    let i = c.loop-edge.edge-index in
    let edge = get_or edges i (record { from = 0; to = 0 }) in
    elim c.if-to-len.branch [
      | then-to-len+in_ok-push w ↦
          (let arrival : Arrival = record { class = c.args.class; from = edge.from } in
          rw w.arrivals-is (record {
            count = h.count;
            each = λ r k q within.
                pushed_at (λ xs. contains (froms k xs) q) _ arrival (λ xs. froms_pushed k q xs arrival) old.items edge.to w.index_mut.result.now w.push.new.self
                (omega (arith, w.if-to-len.true, c.len.ensures, old.ok.0)) w.index_mut.ensures.value w.in_ok-push.ensures.items r
                ∙ rw (h.each r k q within) (next_edge edges i _ _ (eqb k c.args.class) r q c.loop-edge-test.true);
          }))
      | else-to-len w ↦
          rw w.arrivals-is (record {
            count = h.count;
            each = λ r k q within.
                not_pushed _ (eqb k c.args.class && eqb edge.from q) r edge.to (vec_len old) (omega (arith, h.count, within)) (omega (arith, w.if-to-len.false, c.len.ensures))
                ∙ rw (h.each r k q within) (next_edge edges i _ _ (eqb k c.args.class) r q c.loop-edge-test.true);
          })
    ]
