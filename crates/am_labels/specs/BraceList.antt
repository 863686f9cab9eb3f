-- Matcher lists in braces, in a question: from a `{` to the first `}` outside quoted parts, which
-- are those of a matcher text.
use Rattle.std.specs.Prelude.{ℕ, ◌+◌, List, length, slice_index, Bool}
use Rattle.std.specs.Prelude.{not, ◌&&◌, ◌==◌, if◌then◌else◌, Option, None, option_map}
use Rattle.std.specs.List.{find, range_with_len}
use Rattle.am_universe.specs.Bytes.{left_brace, right_brace}
use Rattle.am_labels.specs.MatcherText.{is_quoted}

-- A `}` outside quoted parts, and the index of the first one.
abbrev pub is_closing_brace : List ℕ → ℕ → Bool
is_closing_brace text i = slice_index text i == right_brace && not (is_quoted text i)

abbrev pub first_closing : List ℕ → Option ℕ
first_closing text = find (is_closing_brace text) (range_with_len 0 (length text))

-- The length of the list that a text begins with: from its `{` to the first `}` outside quoted
-- parts. `None` if the text does not begin with `{`, or has no such `}`.
-- Source: own choice.
-- Example: the list of `{a="}"} or {b="c"}` is `{a="}"}`, of 7 bytes.
abbrev pub brace_len : List ℕ → Option ℕ
brace_len text =
    if slice_index text 0 == left_brace then option_map (λ i. i + 1) (first_closing text) else None
