use Rattle.std.proofs.Common.{◌≡◌}
use Rattle.am_judged_lists.proofs.SeenLemmas.{moved_so_far}
use Rattle.am_judged_lists.proofs.cube.Cube.through.Given as goal

-- the masks so far have their places
abbrev pub invariant-loop-m : goal.invariant-loop-m
invariant-loop-m l = l.cube ≡ moved_so_far l.side l.shared l.m-items l.m-index
