-- One more part is split.
use Rattle.am_scan.proofs.PartLemmas.{AreSplit-more}
use Rattle.am_scan.proofs.character_sets.split.Goals as goal

pub loop-part-preserved : goal.loop-part-preserved
loop-part-preserved c =
    AreSplit-more c.args.parts.now c.loop-part.part-index c.part-item.result c.args.set.now.ranges.items c.loop-part.pieces.items c.push_some.new.parts.items
    c.push_some-in-loop-part.new.parts.items c.in_ok-intersection.field-0 c.in_ok-difference.field-0 c.loop-part-test.true c.part-item.is c.loop-part.invariant
    c.in_ok-intersection.ensures c.in_ok-difference.ensures c.in_ok-push_some.ensures.grows c.in_ok-push_some.ensures.from c.in_ok-push_some.ensures.has
    c.in_ok-push_some-2.ensures.grows c.in_ok-push_some-2.ensures.from c.in_ok-push_some-2.ensures.has
