-- The steps of one more column are listed.
use Rattle.std.proofs.Common.{◌<◌, ◌||◌, ◌&&◌, ◌∙◌, eqb, ap, ap₂, vec_len, slice_get, arith}
use lib.ListN.{length-take}
use Rattle.std.specs.List.{list_any}
use Rattle.std.proofs.lemmas.List.{take_all}
use Rattle.am_scan.specs.Arrivals.{froms, has_edge}
use Rattle.am_scan.specs.Closure.{contains}
use Rattle.am_scan.specs.declared.column.Edge.{Edge}
use Rattle.am_scan.proofs.ArrivalLemmas.{has_edge_more}
use Rattle.am_scan.proofs.arrivals.arrivals_of.Goals as goal

pub loop-class-init : goal.loop-class-init
loop-class-init c = record {
  count = c.in_ok-arrivals.ensures.count;
  each = λ r k q within. ap (λ xs. contains (froms k xs) q) (c.in_ok-arrivals.ensures.empty r);
}

pub loop-class-preserved : goal.loop-class-preserved
loop-class-preserved c =
    let h = c.loop-class.invariant in
    let columns = c.args.columns.now in
    let i = c.loop-class.class in
    let column = c.index-columns-class.result in
    let count = c.in_ok-push_arrivals.ensures.count in
    record {
      count = count ∙ h.count;
      each = λ r k q within.
          let inside : r < vec_len c.loop-class.arrivals = omega (arith, within, count) in
          c.in_ok-push_arrivals.ensures.each r k q inside
          ∙ ap₂ (λ x es. x || (eqb k i && list_any (λ (e : Edge). eqb r e.to && eqb e.from q) es)) (h.each r k q inside) c.as_slice.ensures.value
          ∙ has_edge_more columns i column k q r c.loop-class-test.true c.index-columns-class.is (omega (arith, length-take i columns, c.loop-class-test.true));
    }

pub returns-clause-all : goal.returns-clause-all
returns-clause-all c = λ r k q within.
    c.loop-class.invariant.each r k q (omega (arith, within, c.loop-class.arrivals.ok.0))
    ∙ ap (λ cs. has_edge (slice_get cs k) q r) (take_all c.loop-class.class c.args.columns.now (omega (arith, c.loop-class-test.false)))
