use Rattle.std.proofs.Common.{length, nat_lt, ap, sym, ◌∙◌, arith}
use Rattle.std.specs.List.{list_all}
use Rattle.am_judged_lists.proofs.BoxLemmas.{matching_more}
use Rattle.am_judged_lists.proofs.SeenLemmas.{label_within}
use Rattle.am_judged_lists.proofs.position_box.PositionBox.keep_matching.Goals as goal

pub loop-mask-preserved : goal.loop-mask-preserved
loop-mask-preserved c =
    let masks = c.masks-mask-items.result.now in
    let i = c.loop-mask.mask-index in
    let m = c.mask-item.result in
    let within = ap (list_all (λ k. nat_lt k.label c.len.result)) c.masks-mask-items.ensures.masks
    ∙ sym c.is_within.ensures ∙ c.if-not-is_within.false in
    let low = label_within c.len.result masks i m within c.loop-mask-test.true c.mask-item.is in
    matching_more c.args.self.now c.loop-mask.self c.keep_permitted.new.self masks i m c.loop-mask.invariant
    c.loop-mask-test.true c.mask-item.is (omega (arith, low, c.len.ensures, c.loop-mask.invariant.same, ap length c.self.view_is))
    c.keep_permitted.ensures.same c.keep_permitted.ensures.choices
