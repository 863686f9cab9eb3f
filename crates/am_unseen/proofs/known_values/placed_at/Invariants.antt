use Rattle.std.proofs.Common.{◌≡◌, map, take}
use Rattle.am_unseen.specs.Search.{placed_at}
use Rattle.am_unseen.proofs.known_values.placed_at.Given as goal

abbrev pub invariant-loop-unseen : goal.invariant-loop-unseen
invariant-loop-unseen l =
    l.placed.items ≡ map (placed_at l.origin l.name) (take l.unseen-index l.found)
