-- Tests of the elements of a list by their indices.
use Rattle.std.specs.Prelude.{◌≡◌, ℕ, ◌<◌, ◌≤◌, List, length, slice_get, Option, Some, None, Bool}
use Rattle.std.specs.Prelude.{false, IsTrue}

-- The element at an index passes the test. If there is no such element, the result is `false`.
abbrev pub passes_if_there : {X : Type 0} → (X → Bool) → Option X → Bool
passes_if_there test None = false
passes_if_there test (Some x) = test x

abbrev pub is_at : {X : Type 0} → (X → Bool) → List X → ℕ → Bool
is_at test xs i = passes_if_there test (slice_get xs i)

-- The test passes at no index that is at least `from` and below `to`.
abbrev pub NoneBetween : {X : Type 0} → (X → Bool) → List X → ℕ → ℕ → Type 0
NoneBetween {X = X} test xs from to =
    (j : ℕ) (x : X) → from ≤ j → j < to → slice_get xs j ≡ Some x → test x ≡ false

-- The index `i` is the first one, from `from` on, at which the test passes.
pub record IsNext {X : Type 0} (test : X → Bool) (xs : List X) (from i : ℕ) : Type 0 where
  pub after : from ≤ i
  pub within : i < length xs
  pub found : (x : X) → slice_get xs i ≡ Some x → IsTrue (test x)
  pub before : NoneBetween test xs from i
