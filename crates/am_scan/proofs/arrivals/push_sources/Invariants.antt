-- The steps so far are looked at.
use Rattle.std.proofs.Common.{◌≡◌, ℕ, ◌<◌, ◌||◌, take, vec_len}
use Rattle.am_scan.specs.Closure.{contains}
use Rattle.am_scan.specs.Arrivals.{froms, items_at}
use Rattle.am_scan.proofs.arrivals.push_sources.Given as goal

abbrev pub invariant-loop-arrival : goal.invariant-loop-arrival
invariant-loop-arrival l = record {
  count : vec_len l.sources ≡ vec_len l.fn.sources;
  each : (k q : ℕ) → k < vec_len l.fn.sources → contains (items_at l.sources.items k) q
      ≡ (contains (items_at l.fn.sources.items k) q || contains (froms k (take l.arrival-index l.arrivals)) q);
}
