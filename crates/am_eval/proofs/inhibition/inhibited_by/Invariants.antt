use Rattle.std.proofs.Common.{◌≡◌, map, take}
use Rattle.std.specs.List.{filter}
use Rattle.am_eval.specs.Inhibition.{pair_inhibits}
use Rattle.am_eval.proofs.Inhibitors.{position}
use Rattle.am_eval.proofs.inhibition.inhibited_by.Given as goal

-- what was found is what inhibits among the pairs so far
abbrev pub invariant-loop-pair : goal.invariant-loop-pair
invariant-loop-pair l =
    l.found.items
    ≡ map position (filter (pair_inhibits l.world l.set) (take l.pair-index l.pair-items))
