use Rattle.std.proofs.Common.{◌≡◌, ◌++◌, map, take}
use Rattle.am_route_alerts.proofs.ShortenedLemmas.{literal_of}
use Rattle.am_route_alerts.proofs.shortened.shortened.Given as goal

-- the given literals, and those of the matchers so far
abbrev pub invariant-loop-known : goal.invariant-loop-known
invariant-loop-known l =
    l.literals.items ≡ l.given ++ map literal_of (take l.known-index l.matchers)
