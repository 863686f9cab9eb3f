use Rattle.am_universe.specs.Universe.{sizes}
use Rattle.am_outcomes.proofs.BoxLeast.{AreWithin}
use Rattle.am_outcomes.proofs.box_firsts.is_within.Given as goal

-- so it is at the labels so far
abbrev pub invariant-loop-label : goal.invariant-loop-label
invariant-loop-label l = AreWithin (sizes l.universe) l.inner l.outer l.label
