use Rattle.std.proofs.Common.{take}
use Rattle.am_firing.proofs.Most.{IsMostSoFar}
use Rattle.am_firing.proofs.wide.widest.Given as goal

-- the first that is the largest so far
abbrev pub invariant-loop-i : goal.invariant-loop-i
invariant-loop-i l = IsMostSoFar (take l.i l.counts) l.most.0 l.most.1
