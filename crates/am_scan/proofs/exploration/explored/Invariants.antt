-- The rows of the states so far.
use Rattle.std.proofs.Common.{◌≡◌, ℕ, ◌≤◌, ◌<◌, [], Some, slice_get, length, vec_len}
use Rattle.am_scan.specs.declared.row.Row.{Row}
use Rattle.am_scan.specs.declared.pattern_state.PatternState.{PatternState}
use Rattle.am_scan.specs.Scan.{Follows}
use Rattle.am_scan.specs.Automaton.{IsRow}
use Rattle.am_scan.proofs.exploration.explored.Given as goal

abbrev pub invariant-loop-at : goal.invariant-loop-at
invariant-loop-at l = record {
  within : l.at ≤ length l.states.keys;
  some : 0 < length l.states.keys;
  count : vec_len l.rows ≡ l.at;
  first : (state : PatternState) → slice_get l.states.keys 0 ≡ Some state → Follows l.scan state [];
  each : (k : ℕ) (state : PatternState) (row : Row) → slice_get l.states.keys k ≡ Some state
      → slice_get l.rows.items k ≡ Some row → IsRow l.scan l.columns.columns.items l.states.keys state row;
}
