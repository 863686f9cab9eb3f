-- Starts: where the answers of a page begin, and which choices come from there on.
use Rattle.std.specs.Prelude.{ℕ, List, [], Bool, not, IsTrue, Option, Some, None, slice_get}
use Rattle.std.specs.List.{filter, find}
use Rattle.std.specs.Ordering.{nat_cmp, is_lt}
use Rattle.std.specs.Cmp.Lexicographic.{slice_cmp}
use Rattle.am_universe.specs.Choice.{choices, admits, IsWhole}
use Rattle.am_universe.specs.Completions.{completions}
use Rattle.am_search.specs.declared.start.Start.{Start}
use Rattle.am_search.specs.declared.start.Start.TheVariants.{At, After}

-- Tests whether one choice or prefix comes before another in the order of a dictionary.
abbrev pub comes_before : List ℕ → List ℕ → Bool
comes_before c d = is_lt (slice_cmp nat_cmp c d)

-- The starts over labels of these sizes: at a prefix that they admit, and after a whole choice.
abbrev pub IsStart : List ℕ → Start → Type 0
IsStart sizes (At prefix) = IsTrue (admits sizes prefix)
IsStart sizes (After c) = IsWhole sizes c

-- The choice at which a start begins: the first completion of the prefix, or the first choice that
-- comes after the whole choice, if there is one.
-- Source: own choice.
-- Example: over the sizes 2 and 3, `At` 1 begins at 1 0, `After` 0 2 begins there too, and
-- `After` 1 2 begins nowhere.
abbrev pub first_of_start : List ℕ → Start → Option (List ℕ)
first_of_start sizes (At prefix) = slice_get (completions sizes prefix) 0
first_of_start sizes (After c) = find (comes_before c) (choices sizes)

-- Those of some choices that are at or after a first choice, or none if there is no first choice.
abbrev pub at_or_after : Option (List ℕ) → List (List ℕ) → List (List ℕ)
at_or_after None cs = []
at_or_after (Some first) cs = filter (λ c. not (comes_before c first)) cs

-- The choices from a start on, in declared order.
abbrev pub choices_from : List ℕ → Start → List (List ℕ)
choices_from sizes start = at_or_after (first_of_start sizes start) (choices sizes)

-- The answers from a start on: the choices from there on that are true.
-- Source: own choice.
-- Example: over the sizes 2 and 3, if only 0 2, 1 0 and 1 2 are true, the answers after 0 2 are 1 0
-- and 1 2.
abbrev pub answers_from : List ℕ → (List ℕ → Bool) → Start → List (List ℕ)
answers_from sizes truth start = filter truth (choices_from sizes start)
