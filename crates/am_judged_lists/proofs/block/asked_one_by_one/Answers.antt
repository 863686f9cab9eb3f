use Rattle.std.proofs.Common.{◌&&◌, ◌||◌, nat_eq, refl, sym, ◌∙◌}
use Rattle.std.proofs.lemmas.Option.{slice_get_read}
use Rattle.am_judged_lists.specs.Certainty.{passes}
use Rattle.am_judged_lists.specs.Cube.{MaskedLabels, verdict_at}
use Rattle.am_judged_lists.proofs.BlockLemmas.{before_more, all_before}
use Rattle.am_judged_lists.proofs.block.asked_one_by_one.Goals as goal

pub loop-k-preserved : goal.loop-k-preserved
loop-k-preserved c = λ i.
    let test = λ (cube : MaskedLabels). passes c.args.certainty (verdict_at cube c.args.prefix.now) in
    let k = c.loop-k.k in
    c.insert_if.ensures.inserted i
    ∙ (λ j. c.loop-k.invariant i j || (nat_eq i k && c.holds.ensures.verdict j))
    ∙ sym (before_more test c.args.cubes.now k i c.index-cubes-k.result
    (slice_get_read c.args.cubes.now _ k c.index-cubes-k.result refl c.loop-k-test.true c.index-cubes-k.is))

pub returns : goal.returns
returns c = λ k.
    c.loop-k.invariant k
    ∙ all_before (λ (cube : MaskedLabels). passes c.args.certainty (verdict_at cube c.args.prefix.now)) c.args.cubes.now c.loop-k.k k c.loop-k-test.false
