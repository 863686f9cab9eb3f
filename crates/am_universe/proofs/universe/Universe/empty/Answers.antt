use Rattle.am_universe.proofs.UniverseLemmas.{IsUniverse-empty}
use Rattle.am_universe.proofs.universe.Universe.empty.Goals as goal

pub invariant_of-result : goal.invariant_of-result
invariant_of-result c = rw c.new.ensures.items IsUniverse-empty
