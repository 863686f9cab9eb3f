-- The lists so far are empty.
use Rattle.std.proofs.Common.{◌≡◌, ℕ, [], vec_len}
use Rattle.am_scan.specs.Arrivals.{items_at}
use Rattle.am_scan.proofs.arrivals.empty_lists.Given as goal

abbrev pub invariant-loop : goal.invariant-loop
invariant-loop g l = record {
  count : vec_len l.lists ≡ l.counter;
  empty : (k : ℕ) → items_at l.lists.items k ≡ [];
}
