-- The set has the same ranges.
use Rattle.std.proofs.Common.{◌∙◌, refl, sym}
use Rattle.std.proofs.lemmas.Option.{slice_get_read}
use Rattle.am_scan.proofs.PartLemmas.{pairs_same}
use Rattle.am_scan.proofs.character_sets.CharacterSets.has_set.Goals as goal

pub returns-then-eq : goal.returns-then-eq
returns-then-eq c = λ _.
    let sets = c.args.self.now.sets.items in
    let set = c.set-item.result in
    let within = rw c.deref-set-items.ensures.value at c.loop-set-test.true in
    let is = rw c.deref-set-items.ensures.value at c.set-item.is in (
      c.loop-set.set-index,
      set,
      slice_get_read sets _ c.loop-set.set-index set refl within is,
      sym c.as_slice.ensures.value ∙ pairs_same c.as_slice.result.now c.args.ranges.now (sym c.eq.ensures ∙ c.if-eq.true),
    )
