-- The kinds are split by one more set.
use Rattle.am_scan.proofs.PartLemmas.{AreParts-split}
use Rattle.am_scan.proofs.character_sets.CharacterSets.parts.Goals as goal

pub loop-set-preserved : goal.loop-set-preserved
loop-set-preserved c =
    let sets = c.args.self.now.sets.items in
    let set = c.set-item.result in
    let within = rw c.deref-set-items.ensures.value at c.loop-set-test.true in
    let is = rw c.deref-set-items.ensures.value at c.set-item.is in
    let split = rw c.as_slice-in-loop-set.ensures.value at c.in_ok-parts-2.ensures in
    AreParts-split sets c.loop-set.set-index set c.args.self.now.singles.items c.loop-set.parts.items c.in_ok-parts-2.parts.items within is c.loop-set.invariant split
