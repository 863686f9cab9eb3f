use Rattle.std.proofs.Common.{◌≡◌, ◌++◌, map}
use Rattle.std.specs.Vec.Iter.{into_iter_items, into_iter_len}
use Rattle.std.proofs.Common.{length}
use Rattle.am_plans.proofs.pair_lists.parts_of_pairs.Given as goal

-- the parts so far are those of the pairs so far
abbrev pub invariant-loop-pair : goal.invariant-loop-pair
invariant-loop-pair l =
    (l.lists.items ≡ map (λ pair. pair.list) l.yielded)
    × (l.sides.items ≡ map (λ pair. pair.side) l.yielded)
    × (l.yielded ++ into_iter_items l.pair-iterator ≡ l.fn.pairs.items)
    × (into_iter_len l.pair-iterator ≡ length (into_iter_items l.pair-iterator))
