-- How many states a pattern with wildcards has.
use Rattle.std.specs.Prelude.{◌≡◌, ℕ, ◌<◌, List, length, Some, slice_get}
use Rattle.am_labels.specs.Wildcards.{wildcards_state}
use Rattle.am_scan.specs.declared.limits.TheConstants.{MAX_TEXT_STATES}

-- A pattern with wildcards has more states than are kept: there are more than `MAX_TEXT_STATES`
-- texts, no two of which have the same state.
-- Source: own choice.
-- Example: `db` has four states: those of the empty text, of `b`, of `db` and of all others. An
-- alternation of `.*a.*`, `.*b.*` and so on, for 17 letters, has many: one for each set of letters.
pub record HasManyStates (p : List ℕ) : Type 0 where
  pub texts : List (List ℕ)
  pub many : MAX_TEXT_STATES < length texts
  pub apart : (i j : ℕ) (x y : List ℕ) → slice_get texts i ≡ Some x → slice_get texts j ≡ Some y
      → wildcards_state p x ≡ wildcards_state p y → i ≡ j
