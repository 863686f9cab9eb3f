-- The steps so far are listed.
use Rattle.std.proofs.Common.{◌≡◌, ℕ, ◌<◌, ◌||◌, ◌&&◌, ◌==◌, take, vec_len}
use Rattle.std.specs.List.{list_any}
use Rattle.am_scan.specs.Closure.{contains}
use Rattle.am_scan.specs.Arrivals.{froms, items_at}
use Rattle.am_scan.proofs.arrivals.push_arrivals.Given as goal

abbrev pub invariant-loop-edge : goal.invariant-loop-edge
invariant-loop-edge l = record {
  count : vec_len l.arrivals ≡ vec_len l.fn.arrivals;
  each : (r k q : ℕ) → r < vec_len l.fn.arrivals → contains (froms k (items_at l.arrivals.items r)) q
      ≡ (contains (froms k (items_at l.fn.arrivals.items r)) q
      || (k == l.class && list_any (λ e. r == e.to && e.from == q) (take l.edge-index l.edges)));
}
