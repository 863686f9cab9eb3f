use Rattle.std.proofs.Common.{◌≡◌, ◌<◌, ◌&&◌, not, false, [], length, get_or, ap, sym, subst, ◌∙◌, arith}
use Rattle.am_judged_lists.proofs.BoxLemmas.{seen_open, seen_covered}
use Rattle.am_judged_lists.proofs.position_box.PositionBox.matching.Goals as goal
use Rattle.am_judged_lists.proofs.position_box.PositionBox.matching.Goals.{then-any_in, else-any_in}

pub loop-mask-preserved : goal.loop-mask-preserved
loop-mask-preserved c =
    let b = c.self.inside.masks.items in
    let cube = c.args.cube.now in
    let masks = c.masks-mask-items.result.now in
    let i = c.loop-mask.mask-index in
    let m = c.mask-item.result in
    let last = c.loop-mask.last in
    let labels = c.loop-mask.labels in
    let so_far = c.loop-mask.invariant in
    let low = c.loop-mask-test.true in
    let found = c.in-Some.ensures.lookup.3 in
    let within : m.label < length b = subst (λ xs. m.label < length xs) c.deref.ensures.value found.0 in
    let own : c.in-Some.own.now ≡ get_or b m.label [] =
    found.1 [] ∙ ap (λ xs. get_or xs m.label []) c.deref.ensures.value in
    elim c.if-any_in.branch [
      | then-any_in w ↦
          let more = w.saturating_add-labels.result in
          rw (w.last-is, w.labels-is)
          (seen_open b cube masks i m last labels so_far low c.mask-item.is c.masks-mask-items.ensures.masks
          c.masks-mask-items.ensures.ascend within more
          (λ e. omega (arith, e, w.saturating_add-labels.ensures))
          (λ e. omega (arith, e, w.saturating_add-labels.ensures))
          (λ none. c.any_in.ensures.some c.if-not-any_in.false
          (λ p. ap (λ x. get_or x p false && get_or m.mask p false) own ∙ none p))
          (λ none. c.any_in-in-loop-mask.ensures.some w.if-any_in.true
          (λ p. ap (λ x. get_or x p false && not (get_or m.mask p false)) own ∙ none p)))
      | else-any_in w ↦
          rw (w.last-is, w.labels-is)
          (seen_covered b cube masks i m last labels so_far low c.mask-item.is within
          (λ p. ap (λ x. get_or x p false && not (get_or m.mask p false)) (sym own)
          ∙ c.any_in-in-loop-mask.ensures.none w.if-any_in.false p))
    ]
