use Rattle.std.proofs.Common.{ap, ◌∙◌}
use Rattle.std.specs.List.{flat_map}
use Rattle.std.proofs.lemmas.List.{take_all}
use Rattle.am_asked.specs.Placed.{placed_by_pair}
use Rattle.am_asked.proofs.EqualMatchers.{of_pairs}
use Rattle.am_asked.proofs.equal_matchers.equal_matchers_of.Goals as goal

pub returns : goal.returns
returns c =
    let w = c.args.world.now in
    let all = take_all c.loop-pair.pair-index c.pairs-pair-items.result.now c.loop-pair-test.false in
    record {
      matchers = c.loop-pair.invariant
          ∙ (ap (flat_map (placed_by_pair w)) (all ∙ c.pairs-pair-items.ensures.pairs)
          ∙ of_pairs w);
    }
