use Rattle.std.proofs.Common.{◌≡◌, ◌==◌, true, not, ap, sym, subst, ◌∙◌}
use Rattle.std.specs.List.{list_all}
use Rattle.std.proofs.lemmas.List.{take_all}
use Rattle.am_judged_lists.specs.CubeView.{AscendByLabel}
use Rattle.am_judged_lists.proofs.BoxLemmas.{permits_here, permits_alone, others_permit}
use Rattle.am_judged_lists.proofs.cube.Cube.mask_of.Goals as goal

pub returns-then-m-label-clause-some : goal.returns-then-m-label-clause-some
returns-then-m-label-clause-some c = λ position.
    let label = c.args.label in
    let masks = c.deref-m-items.result.now in
    let same = c.deref-m-items.ensures.value ∙ ap (λ v. v.masks) c.self.view_is in
    let ascend = subst AscendByLabel (sym c.deref-m-items.ensures.value) c.self.invariant.ascend in
    ap (list_all (permits_here label position)) (sym same)
    ∙ permits_alone label position c.loop-m.m-index masks c.m-item.result ascend c.loop-m-test.true
    c.m-item.is c.if-m-label.true

pub returns-clause-none : goal.returns-clause-none
returns-clause-none c = λ position.
    let label = c.args.label in
    let masks = c.deref-m-items.result.now in
    let same = c.deref-m-items.ensures.value ∙ ap (λ v. v.masks) c.self.view_is in
    let all = take_all c.loop-m.m-index masks c.loop-m-test.false in
    ap (list_all (permits_here label position)) (sym same)
    ∙ others_permit label position masks
    (subst (λ ms. list_all (λ m. not (m.label == label)) ms ≡ true) all c.loop-m.invariant)
