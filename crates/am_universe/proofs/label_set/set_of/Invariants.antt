use Rattle.std.proofs.Common.{◌≡◌, take}
use Rattle.am_universe.specs.LabelSet.{label_set_of}
use Rattle.am_universe.proofs.label_set.set_of.Given as goal

-- the set of the first labels
abbrev pub invariant-loop-i : goal.invariant-loop-i
invariant-loop-i l = l.set ≡ label_set_of (take l.i l.universe) (take l.i l.choice)
