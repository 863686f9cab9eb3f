use Rattle.std.proofs.Common.{◌≡◌, map}
use Rattle.std.specs.List.{range_with_len}
use Rattle.am_firing.specs.Going.{positions_of}
use Rattle.am_firing.proofs.going.alerts_of_receivers.Given as goal

-- the positions for the receivers so far
abbrev pub invariant-loop-receiver : goal.invariant-loop-receiver
invariant-loop-receiver l =
    map (λ positions. positions.items) l.found.items
    ≡ map (positions_of l.world) (range_with_len 0 l.receiver)
