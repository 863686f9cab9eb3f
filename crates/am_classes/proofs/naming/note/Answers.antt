use Rattle.std.proofs.Common.{◌∷◌, [], ℕ, List, Bor, get_or, map, take, sym, ap, ◌∙◌, arith}
use Rattle.std.proofs.Common.{take_all}
use Rattle.std.proofs.lemmas.Option.{get_or_from_slice_get, slice_get-get_or}
use Rattle.am_scan.proofs.Places.{map_front}
use Rattle.am_classes.specs.LabelTests.{named_places, noted}
use Rattle.am_classes.proofs.HitLemmas.{noted_more}
use Rattle.am_classes.proofs.naming.note.Goals as goal

pub loop-text-preserved : goal.loop-text-preserved
loop-text-preserved c = λ q.
    let now : Bor (List ℕ) → List ℕ = λ t. t.now in
    let items = c.deref-text-items.result.now in
    let i = c.loop-text.text-index in
    let none : Bor (List ℕ) = record { ref_ptr = (0, 0); now = [] } in
    let x = get_or items i none in
    let n = c.args.place in
    let old = named_places c.args.named.now q in
    c.in_ok-add_name.ensures q
    ∙ ap (noted (x.now ∷ []) n q) (c.loop-text.invariant q)
    ∙ sym (noted_more (map now (take i items)) x.now n q old)
    ∙ ap (λ texts. noted texts n q old)
    (sym (map_front now items i x (omega arith)
    (sym (get_or_from_slice_get items i x x (slice_get-get_or items i none (omega arith))))))

pub returns : goal.returns
returns c = λ q.
    let now : Bor (List ℕ) → List ℕ = λ t. t.now in
    let whole = take_all c.loop-text.text-index c.deref-text-items.result.now (omega arith) in
    c.loop-text.invariant q
    ∙ ap (λ texts. noted texts c.args.place q (named_places c.args.named.now q))
    (ap (map now) (whole ∙ c.deref-text-items.ensures.value) ∙ c.in_ok-texts.ensures)
