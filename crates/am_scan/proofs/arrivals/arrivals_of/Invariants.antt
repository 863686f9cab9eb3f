-- The steps of the columns so far are listed.
use Rattle.std.proofs.Common.{◌≡◌, ℕ, ◌<◌, take, slice_get, vec_len}
use Rattle.am_scan.specs.Closure.{contains}
use Rattle.am_scan.specs.Arrivals.{froms, items_at, has_edge}
use Rattle.am_scan.proofs.arrivals.arrivals_of.Given as goal

abbrev pub invariant-loop-class : goal.invariant-loop-class
invariant-loop-class l = record {
  count : vec_len l.arrivals ≡ l.fn.states;
  each : (r k q : ℕ) → r < vec_len l.arrivals → contains (froms k (items_at l.arrivals.items r)) q
      ≡ has_edge (slice_get (take l.class l.columns) k) q r;
}
