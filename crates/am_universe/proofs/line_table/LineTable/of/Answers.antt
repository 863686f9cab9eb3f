use Rattle.std.proofs.Common.{◌≡◌, ◌≤◌, refl, ap, sym, ◌∙◌, map, length, subst, arith}
use Rattle.std.specs.List.{AllByRecursion}
use Rattle.std.specs.Prelude.{slice_get, Some}
use Rattle.std.specs.Vec.{vec_len}
use Rattle.std.proofs.lemmas.List.{take_all}
use Rattle.std.proofs.lemmas.Option.{slice_get_read}
use Rattle.am_universe.specs.LineTable.{label_pieces, texts_of_pieces, IsLineTable}
use Rattle.am_universe.proofs.LineTableLemmas.{label_more, room_more, line_fits}
use Rattle.am_universe.proofs.line_table.LineTable.of.Goals as goal

pub loop-label-preserved : goal.loop-label-preserved
loop-label-preserved c =
    let u = c.args.universe.now in
    let i = c.loop-label.label-index in
    let l = c.label-item.result in
    let most = subst (AllByRecursion (λ piece. vec_len piece ≤ c.longest.result)) c.as_slice.ensures.value c.longest.ensures in
    let at : slice_get u i ≡ Some l =
    subst (λ ls. slice_get ls i ≡ Some l) c.labels-label-items.ensures (slice_get_read c.labels-label-items.result.now _ i l refl c.loop-label-test.true c.label-item.is) in
    record {
      pieces = ap (map texts_of_pieces) c.in_ok-push.ensures.items ∙ label_more u c.loop-label.labels.items i l c.in_ok-pieces.pieces at c.in_ok-pieces.ensures c.loop-label.invariant.pieces;
      room = λ d whole.
          let more = room_more u d i c.longest.result c.loop-label.room l c.in_ok-pieces.pieces at whole c.in_ok-pieces.ensures most (c.loop-label.invariant.room d whole) in
          omega (arith, more, c.in-Some.ensures.1);
    }

pub invariant_of-result : goal.invariant_of-result
invariant_of-result c =
    let u = c.args.universe.now in
    let all : c.loop-label.label-index ≡ length u = omega (arith, ap length c.labels-label-items.ensures) in
    subst (λ v. IsLineTable v c.loop-label.labels.items c.in_ok-with_capacity.field-0) (sym c.of.ensures)
    (record {
      pieces = c.loop-label.invariant.pieces ∙ ap (map label_pieces) (take_all c.loop-label.label-index u (omega (arith, all)));
      room = λ d whole. omega (arith, line_fits u d c.loop-label.label-index c.loop-label.room whole all (c.loop-label.invariant.room d whole), c.in_ok-with_capacity.ensures.capacity);
    })
