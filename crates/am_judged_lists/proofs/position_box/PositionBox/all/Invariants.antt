use Rattle.am_universe.specs.Universe.{sizes}
use Rattle.am_judged_lists.proofs.BoxLemmas.{IsFull}
use Rattle.am_judged_lists.proofs.position_box.PositionBox.all.Given as goal

-- the labels so far have all their positions
abbrev pub invariant-loop-label : goal.invariant-loop-label
invariant-loop-label l = IsFull (sizes l.universe) l.masks.items l.label
