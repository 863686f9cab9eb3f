-- Reading a matcher text step by step, as a function that gives the list that the text spells, or
-- nothing. It serves the proofs. `Spells` defines what a text spells, and the function decides it.
use Rattle.std.specs.Prelude.{◌≡◌, ℕ, ◌+◌, ◌-◌, List, [], ◌∷◌, length, take, drop, slice_index}
use Rattle.std.specs.Prelude.{◌==◌, if◌then◌else◌, Option, Some, None, ◌⊎◌, Result, Ok, Err}
use Rattle.std.specs.Option.{option_and_then}
use Rattle.std.specs.List.{range_with_len, prefix_len, suffix_len, position_or_len}
use Rattle.am_universe.specs.Bytes.{double_quote}
use Rattle.am_universe.specs.Text.{same_text}
use Rattle.am_universe.specs.declared.kind.Kind.{Kind}
use Rattle.am_universe.specs.declared.kind.Kind.TheVariants.{Memory, BadMatcher}
use Rattle.am_labels.specs.declared.op.Op.{Op}
use Rattle.am_labels.specs.declared.op.TheConstants.Op.{ALL}
use Rattle.am_labels.specs.Matcher.{Matcher, operator_text}
use Rattle.am_labels.specs.MatcherText.{is_space, begins_name, continues_name, is_quote}
use Rattle.am_labels.specs.MatcherText.{unescaped_text, matcher_pieces}
use Rattle.am_labels.specs.MatcherText.{without_opening, without_closing, pieces_of_words}

infixl 10 ◌>>=◌
-- What is read next, given what was read first; nothing if either reads nothing.
abbrev pub ◌>>=◌ : {A B : Type 0} → Option A → (A → Option B) → Option B
o >>= f = option_and_then f o

-- The kind of a failure is `Memory`; or it is `BadMatcher`, and reading gives nothing.
abbrev pub IsReadFailure : {Y : Type 0} → Kind → Option Y → Type 0
IsReadFailure kind read = (kind ≡ Memory) ⊎ ((kind ≡ BadMatcher) × (read ≡ None))

-- A function returned a value that `view` maps to what reading gives; or it failed because memory
-- ran out, or because reading gives nothing.
abbrev pub ReturnsReading : {X Y : Type 0} → (X → Y) → Result X Kind → Option Y → Type 0
ReturnsReading view (Ok x) read = read ≡ Some (view x)
ReturnsReading view (Err kind) read = IsReadFailure kind read

-- A text without the whitespace at its beginning, and without that at its end.
abbrev pub without_leading_blanks : List ℕ → List ℕ
without_leading_blanks text = drop (prefix_len is_space text) text

abbrev pub without_trailing_blanks : List ℕ → List ℕ
without_trailing_blanks text = take (length text - suffix_len is_space text) text

-- The index of the first quote that is not escaped, or the length.
abbrev pub first_quote : List ℕ → ℕ
first_quote text = position_or_len (is_quote text) (range_with_len 0 (length text))

-- The body of a raw value.
unfoldable pub read_body : List ℕ → Option (List ℕ)
read_body raw =
    if slice_index raw 0 == double_quote then
    (if first_quote (drop 1 raw) + 1 == length (drop 1 raw)
    then Some (take (length (drop 1 raw) - 1) (drop 1 raw))
    else None)
    else (if first_quote raw == length raw then Some raw else None)

-- The first operator in a list that a text begins with, and what follows it in the text; and the
-- same for the list of all operators.
abbrev pub first_operator : List Op → List ℕ → Option (Op × List ℕ)
first_operator [] text = None
first_operator (op ∷ more) text =
    if same_text (take (length (operator_text op)) text) (operator_text op)
    then Some (op, drop (length (operator_text op)) text)
    else first_operator more text

unfoldable pub read_operator : List ℕ → Option (Op × List ℕ)
read_operator = first_operator ALL

-- A name, and what follows it.
unfoldable pub read_name : List ℕ → Option (List ℕ × List ℕ)
read_name text =
    if begins_name (slice_index text 0) then
    Some (take (prefix_len continues_name text) text, drop (prefix_len continues_name text) text)
    else None

-- The matcher that a piece spells.
unfoldable pub read_piece : List ℕ → Option Matcher
read_piece piece = do
  name ← read_name (without_leading_blanks piece)
  op ← read_operator (without_leading_blanks name.1)
  body ← read_body (without_trailing_blanks (without_leading_blanks op.1))
  Some (record { name = name.0; op = op.0; value = unescaped_text body })

-- The matchers that pieces spell, one by one.
unfoldable pub read_each_piece : List (List ℕ) → Option (List Matcher)
read_each_piece [] = Some []
read_each_piece (piece ∷ more) = do
  first ← read_piece piece
  others ← read_each_piece more
  Some (first ∷ others)

-- The list that a text spells.
unfoldable pub read_list : List ℕ → Option (List Matcher)
read_list text = read_each_piece (matcher_pieces (without_closing (without_opening text)))

-- The list that words spell.
unfoldable pub read_words : List (List ℕ) → Option (List Matcher)
read_words words = read_each_piece (pieces_of_words words)
