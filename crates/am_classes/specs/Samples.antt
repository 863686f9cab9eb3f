-- Numbers of an automaton that were reached, each with a text.
use Rattle.std.specs.Prelude.{◌≡◌, ◌≤◌, ℕ, List, Some, slice_get, length}
use Rattle.am_classes.specs.declared.samples.Reached.{Reached}

-- No text is longer than there are numbers before its own.
abbrev pub AreNoLonger : List Reached → Type 0
AreNoLonger reached =
    (k : ℕ) (x : Reached) → slice_get reached k ≡ Some x → length x.text.items ≤ k
