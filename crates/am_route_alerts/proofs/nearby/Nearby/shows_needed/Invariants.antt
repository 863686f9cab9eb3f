use Rattle.std.proofs.Common.{ℕ, ◌<◌}
use Rattle.am_route_alerts.proofs.NearbyLemmas.{IsPassed}
use Rattle.am_route_alerts.proofs.nearby.Nearby.shows_needed.Given as goal

-- the labels so far are passed
abbrev pub invariant-loop-label : goal.invariant-loop-label
invariant-loop-label l =
    (label : ℕ) → label < l.label → IsPassed l.literals l.i l.self.choice l.nearest label
