use Rattle.std.proofs.Common.{◌-◌, length}
use Rattle.am_classes.proofs.class_texts.many_classes.Given as goal

abbrev pub invariant-loop-from : goal.invariant-loop-from
invariant-loop-from l = Unit {0}

abbrev pub decreases-loop-from : goal.decreases-loop-from
decreases-loop-from l = length l.matchers - l.from
