use Rattle.std.proofs.Common.{◌≡◌, ◌++◌, drop}
use Rattle.am_complete.specs.Missing.{open_positions, opens_from}
use Rattle.am_complete.proofs.made_universe.open_positions.Given as goal

-- the positions so far, and those of the open labels that are left, are all
abbrev pub invariant-loop-i : goal.invariant-loop-i
invariant-loop-i l =
    l.positions.items ++ opens_from l.i (drop l.i l.missing) ≡ open_positions l.missing
