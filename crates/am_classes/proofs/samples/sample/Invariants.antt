use Rattle.am_classes.specs.Samples.{AreNoLonger}
use Rattle.am_classes.proofs.samples.sample.Given as goal

abbrev pub invariant-loop-at : goal.invariant-loop-at
invariant-loop-at l = AreNoLonger l.reached.items
