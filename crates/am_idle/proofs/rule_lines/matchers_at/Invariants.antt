use Rattle.std.proofs.Common.{◌≡◌, map, take}
use Rattle.am_idle.specs.RuleLines.{matchers_at}
use Rattle.am_idle.proofs.rule_lines.matchers_at.Given as goal

-- The matchers at the first positions are there.
abbrev pub invariant-loop-position : goal.invariant-loop-position
invariant-loop-position l =
    map (λ m. m.now) l.found.items
    ≡ matchers_at l.matchers (take l.position-index l.positions)
