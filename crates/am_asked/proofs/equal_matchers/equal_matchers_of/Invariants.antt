use Rattle.std.proofs.Common.{◌≡◌, take}
use Rattle.std.specs.List.{flat_map}
use Rattle.am_asked.specs.Placed.{placed_by_pair}
use Rattle.am_asked.proofs.equal_matchers.equal_matchers_of.Given as goal

-- what was made is what the pairs so far stand for
abbrev pub invariant-loop-pair : goal.invariant-loop-pair
invariant-loop-pair l =
    l.made.items ≡ flat_map (placed_by_pair l.world) (take l.pair-index l.pair-items)
