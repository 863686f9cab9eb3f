use Rattle.am_classes.specs.Samples.{AreNoLonger}
use Rattle.am_classes.proofs.samples.reach_more.Given as goal

abbrev pub invariant-loop-byte : goal.invariant-loop-byte
invariant-loop-byte l = AreNoLonger l.reached.items
