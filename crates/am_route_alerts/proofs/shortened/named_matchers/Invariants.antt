use Rattle.std.proofs.Common.{◌≡◌, length, take}
use Rattle.am_route_alerts.proofs.ShortenedLemmas.{kept_of}
use Rattle.am_route_alerts.proofs.shortened.named_matchers.Given as goal

-- the matchers so far whose literals are named
abbrev pub invariant-loop-literal : goal.invariant-loop-literal
invariant-loop-literal l =
    l.kept.items
    ≡ kept_of (take (length l.yielded) l.literals) (take (length l.yielded) l.matchers)
