-- The states so far, and where the symbols so far lead.
use Rattle.std.proofs.Common.{◌≡◌, ℕ, ◌+◌, ◌≤◌, ◌<◌, length}
use Rattle.am_scan.specs.Automaton.{Grows}
use Rattle.am_scan.specs.WildcardPlaces.{AreReached, LeadOn}
use Rattle.am_scan.proofs.wildcard_exploration.row.Given as goal

abbrev pub invariant-loop-symbol : goal.invariant-loop-symbol
invariant-loop-symbol l = record {
  grows : Grows l.fn.states.keys l.states.keys;
  reached : AreReached l.places l.states.keys;
  few : length l.states.keys ≤ length l.fn.states.keys + l.symbol-index;
  count : length l.next.items ≡ l.symbol-index;
  leads : (k : ℕ) → k < l.symbol-index → LeadOn l.places l.symbols l.states.keys l.state l.next.items k;
}
