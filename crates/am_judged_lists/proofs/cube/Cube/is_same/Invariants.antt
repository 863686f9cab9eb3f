use Rattle.std.proofs.Common.{◌≡◌, take}
use Rattle.am_judged_lists.proofs.cube.Cube.is_same.Given as goal

-- the masks so far are the same
abbrev pub invariant-loop-i : goal.invariant-loop-i
invariant-loop-i l = take l.i l.self.masks ≡ take l.i l.other.masks
