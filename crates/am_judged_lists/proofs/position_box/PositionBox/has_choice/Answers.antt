use Rattle.std.proofs.Common.{sym, subst, ◌∙◌}
use Rattle.am_judged_lists.specs.Boxes.{HasChoice}
use Rattle.am_judged_lists.proofs.BoxLemmas.{chosen_more, none_chosen}
use Rattle.am_judged_lists.proofs.position_box.PositionBox.has_choice.Goals as goal

pub loop-mask-preserved : goal.loop-mask-preserved
loop-mask-preserved c =
    chosen_more c.as_slice-mask-items.result.now c.loop-mask.mask-index c.mask-item.result
    c.loop-mask.invariant c.loop-mask-test.true c.mask-item.is (c.any_in.ensures.some c.if-not-any_in.false)

pub returns-then-not-any_in : goal.returns-then-not-any_in
returns-then-not-any_in c = (
  (λ e. cc),
  (λ some. absurd (none_chosen c.as_slice-mask-items.result.now c.loop-mask.mask-index c.mask-item.result
      c.loop-mask-test.true c.mask-item.is (c.any_in.ensures.none c.if-not-any_in.true)
      (subst HasChoice (sym c.self.view_is ∙ sym c.as_slice-mask-items.ensures.value) some))),
)
