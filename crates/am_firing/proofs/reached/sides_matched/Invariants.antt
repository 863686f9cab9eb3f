use Rattle.std.proofs.Common.{◌≡◌, take, map}
use Rattle.am_firing.specs.Reach.{sides_matched}
use Rattle.am_firing.proofs.reached.sides_matched.Given as goal

-- the answers for the rules so far
abbrev pub invariant-loop-rule : goal.invariant-loop-rule
invariant-loop-rule l =
    l.found.items ≡ map (sides_matched l.alerts) (take l.rule-index l.rules)
