-- The states so far are looked at.
use Rattle.std.proofs.Common.{◌≡◌, ℕ, ◌<◌, vec_len}
use Rattle.am_scan.specs.Closure.{contains}
use Rattle.am_scan.specs.Arrivals.{items_at, sources_below}
use Rattle.am_scan.proofs.arrivals.sources.Given as goal

abbrev pub invariant-loop-state : goal.invariant-loop-state
invariant-loop-state l = record {
  count : vec_len l.sources ≡ l.classes;
  each : (k q : ℕ) → k < l.classes → contains (items_at l.sources.items k) q
      ≡ sources_below l.state l.arrivals l.accepted k q;
}
