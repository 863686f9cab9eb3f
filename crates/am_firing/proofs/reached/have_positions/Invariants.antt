use Rattle.std.proofs.Common.{◌≡◌, ◌==◌, take, map, not, length}
use Rattle.am_firing.proofs.reached.have_positions.Given as goal

-- the answers for the lists so far
abbrev pub invariant-loop-positions : goal.invariant-loop-positions
invariant-loop-positions l =
    l.found.items
    ≡ map (λ positions. not (length positions.items == 0)) (take l.positions-index l.lists)
