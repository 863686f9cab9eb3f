use Rattle.std.proofs.Common.{◌&&◌, ◌||◌, nat_eq, refl, sym, ◌∙◌}
use Rattle.std.proofs.lemmas.Option.{slice_get_read}
use Rattle.am_judged_lists.specs.BlockView.{can_pass}
use Rattle.am_judged_lists.proofs.BlockLemmas.{before_more, all_before}
use Rattle.am_judged_lists.proofs.block.cubes_that_can_pass.Goals as goal

pub loop-k-preserved : goal.loop-k-preserved
loop-k-preserved c = λ i.
    let test = can_pass c.args.certainty c.args.len in
    let k = c.loop-k.k in
    c.insert_if.ensures.inserted i
    ∙ (λ j. c.loop-k.invariant i j || (nat_eq i k && c.can_pass.ensures j))
    ∙ sym (before_more test c.args.cubes.now k i c.index-cubes-k.result
    (slice_get_read c.args.cubes.now _ k c.index-cubes-k.result refl c.loop-k-test.true c.index-cubes-k.is))

pub returns : goal.returns
returns c = λ k.
    c.loop-k.invariant k
    ∙ all_before (can_pass c.args.certainty c.args.len) c.args.cubes.now c.loop-k.k k c.loop-k-test.false
