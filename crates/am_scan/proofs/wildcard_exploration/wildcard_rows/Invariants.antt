-- The rows of the states so far.
use Rattle.std.proofs.Common.{◌≡◌, ℕ, ◌≤◌, ◌<◌, [], Some, slice_get, length}
use Rattle.std.specs.Global.{Vec}
use Rattle.std.specs.List.{IsDistinct}
use Rattle.am_scan.specs.declared.limits.TheConstants.{MAX_TEXT_STATES}
use Rattle.am_scan.specs.declared.row.Row.{Row}
use Rattle.am_scan.specs.WildcardPlaces.{marked_places, same_state, AreReached, IsRowOf}
use Rattle.am_scan.proofs.wildcard_exploration.wildcard_rows.Given as goal

abbrev pub invariant-loop-at : goal.invariant-loop-at
invariant-loop-at l = record {
  few : length l.states.keys ≤ MAX_TEXT_STATES;
  within : l.at ≤ length l.states.keys;
  count : length l.rows.items ≡ l.at;
  unique : IsDistinct same_state l.states.keys;
  reached : AreReached l.places l.states.keys;
  some : 0 < length l.states.keys;
  first : (state : Vec ℕ) → slice_get l.states.keys 0 ≡ Some state → state.items ≡ marked_places l.places [];
  each : (k : ℕ) (state : Vec ℕ) (row : Row) → slice_get l.states.keys k ≡ Some state
      → slice_get l.rows.items k ≡ Some row → IsRowOf l.places l.symbols l.states.keys state.items row;
}
