use Rattle.std.proofs.Common.{◌≡◌, ◌++◌, drop}
use Rattle.am_eval.specs.Silencing.{hides, positions_where, silencers}
use Rattle.am_eval.proofs.silencing.silenced_by.Given as goal

-- the positions so far, and those among the silences that are left, are all positions
abbrev pub invariant-loop-i : goal.invariant-loop-i
invariant-loop-i l =
    l.found.items ++ positions_where (hides l.world l.set) l.i (drop l.i l.world.silences)
    ≡ silencers l.world l.set
