-- What a matcher text spells: a list of matchers, each with a name, an operator and a value. The
-- definitions use indices into the text, which is a list of bytes, and counts, but not the states
-- of a reader. The syntax is the classic one. If the reference leaves something open, the reading
-- is this project's own.
use Rattle.std.specs.Prelude.{◌≡◌, ℕ, zero, suc, ◌+◌, ◌-◌, ◌%◌, ◌≤◌, List, [], ◌∷◌, ◌++◌}
use Rattle.std.specs.Prelude.{length, take, drop, slice_index, slice_range, EachIndex, Bool, false}
use Rattle.std.specs.Prelude.{not, ◌&&◌, ◌||◌, ◌==◌, if◌then◌else◌, IsTrue, IsFalse, ◌⊎◌}
use Rattle.std.specs.List.{filter, list_all, range_with_len, suffix_len, AllZip}
use Rattle.std.specs.Char.{is_ascii_whitespace}
use Rattle.am_labels.specs.declared.op.Op.{Op}
use Rattle.am_universe.specs.Bytes.{line_feed, double_quote, comma, colon, backslash, letter_n}
use Rattle.am_universe.specs.Bytes.{left_brace, right_brace}
use Rattle.am_universe.specs.Universe.{begins_label_name, continues_label_name}
use Rattle.am_labels.specs.Matcher.{Matcher, operator_text}

-- ---- Bytes.

-- Whitespace: space, tab, line feed, carriage return and form feed; and a text without any other
-- byte, which may be empty.
abbrev pub is_space : ℕ → Bool
is_space = is_ascii_whitespace

abbrev pub is_blank : List ℕ → Bool
is_blank text = list_all is_space text

-- A name: it begins and goes on as a label name does, but may also have `:` anywhere.
abbrev pub begins_name : ℕ → Bool
begins_name c = begins_label_name c || c == colon

abbrev pub continues_name : ℕ → Bool
continues_name c = continues_label_name c || c == colon

abbrev pub is_name : List ℕ → Bool
is_name [] = false
is_name (c ∷ cs) = begins_name c && list_all continues_name cs

-- ---- Backslashes and quotes.

-- The byte at an index is escaped: an odd number of backslashes is directly before it.
abbrev pub is_escaped : List ℕ → ℕ → Bool
is_escaped text i = suffix_len (λ c. c == backslash) (take i text) % 2 == 1

-- A quote that is not escaped; and how many of them are before an index.
abbrev pub is_quote : List ℕ → ℕ → Bool
is_quote text i = slice_index text i == double_quote && not (is_escaped text i)

abbrev pub quotes_before : List ℕ → ℕ → ℕ
quotes_before text zero = 0
quotes_before text (suc i) = quotes_before text i + (if is_quote text i then 1 else 0)

-- Each of them begins or ends a quoted part. So an index is in a quoted part if their number is
-- odd.
abbrev pub is_quoted : List ℕ → ℕ → Bool
is_quoted text i = quotes_before text i % 2 == 1

-- ---- Pieces.

-- The text without one `{` at its very beginning, and without one `}` at its very end.
abbrev pub without_opening : List ℕ → List ℕ
without_opening text = if slice_index text 0 == left_brace then drop 1 text else text

abbrev pub without_closing : List ℕ → List ℕ
without_closing text =
    if slice_index text (length text - 1) == right_brace then take (length text - 1) text else text

-- A comma outside quoted parts, and the indices of all of them.
abbrev pub is_separator : List ℕ → ℕ → Bool
is_separator text i = slice_index text i == comma && not (is_quoted text i)

abbrev pub separators : List ℕ → List ℕ
separators text = filter (is_separator text) (range_with_len 0 (length text))

-- The text from an index on, cut at these indices.
abbrev pub pieces_from : List ℕ → ℕ → List ℕ → List (List ℕ)
pieces_from text start [] = drop start text ∷ []
pieces_from text start (index ∷ indices) =
    slice_range text start index ∷ pieces_from text (index + 1) indices

-- Pieces without the last one, if that is blank.
abbrev pub without_blank_last : List (List ℕ) → List (List ℕ)
without_blank_last [] = []
without_blank_last (piece ∷ []) = if is_blank piece then [] else piece ∷ []
without_blank_last (piece ∷ next ∷ more) = piece ∷ without_blank_last (next ∷ more)

-- The pieces of a text without braces: the text is cut at its separators, and a blank last piece is
-- left out.
-- Source: Alertmanager configuration reference 0.25, "<matcher>".
-- Example: `a="1,2",b="3",` has the pieces `a="1,2"` and `b="3"`.
abbrev pub matcher_pieces : List ℕ → List (List ℕ)
matcher_pieces text = without_blank_last (pieces_from text 0 (separators text))

-- ---- One piece.

-- The bytes that a backslash escapes, `"`, `\` and `n`; and what they then stand for: a quote, a
-- backslash and a line feed.
abbrev pub has_escape : ℕ → Bool
has_escape c = (c == double_quote || c == backslash) || c == letter_n

abbrev pub byte_of_escape : ℕ → ℕ
byte_of_escape c = if c == letter_n then line_feed else c

-- A body, with each escape replaced by the byte that it stands for, from left to right. A backslash
-- that escapes no byte, as before `d` or at the end, stands for itself.
-- Source: Alertmanager configuration reference 0.25, "<matcher>".
-- Example: `a\nb` gives `a`, a line feed and `b`; `\d` stays as it is.
abbrev pub unescaped_text : List ℕ → List ℕ
unescaped_text [] = []
unescaped_text (c ∷ []) = c ∷ []
unescaped_text (c ∷ d ∷ more) =
    if c == backslash && has_escape d then byte_of_escape d ∷ unescaped_text more
    else c ∷ unescaped_text (d ∷ more)

-- The body of a raw value. If the value is in quotes, and the last quote is not escaped, it is the
-- text between them. If the value does not begin with a quote, it is all of the value.
abbrev pub HasBody : List ℕ → List ℕ → Type 0
HasBody raw body =
    ((raw ≡ double_quote ∷ (body ++ double_quote ∷ []))
    × IsFalse (is_escaped raw (length body + 1)))
    ⊎ (IsFalse (slice_index raw 0 == double_quote) × (raw ≡ body))

-- The value of a raw value: its body, with the escapes replaced. The body must have no quote that
-- is not escaped.
-- Source: Alertmanager configuration reference 0.25, "<matcher>".
-- Example: `"a\"b"` has the value `a"b`, `db` has the value `db`, and `a"b` has none.
pub record HasValue (raw value : List ℕ) : Type 0 where
  pub body : List ℕ
  pub has_body : HasBody raw body
  pub no_quote : EachIndex body (λ i. IsFalse (is_quote body i))
  pub value_is : value ≡ unescaped_text body

-- There is no whitespace at either end.
abbrev pub is_trimmed : List ℕ → Bool
is_trimmed raw =
    not (is_space (slice_index raw 0)) && not (is_space (slice_index raw (length raw - 1)))

-- No operator that a text begins with is longer than this one. So `=~` is never read as `=` before
-- a `~`.
abbrev pub IsLongest : Op → List ℕ → Type 0
IsLongest op text =
    (other : Op) (rest : List ℕ) → text ≡ operator_text other ++ rest
    → length (operator_text other) ≤ length (operator_text op)

-- A piece spells a matcher: whitespace, a name, whitespace, an operator, whitespace, a raw value,
-- whitespace. Each whitespace may be empty. The operator is the longest one there.
-- Source: Alertmanager configuration reference 0.25, "<matcher>".
-- Example: ` team = db ` spells the name `team`, the operator `=` and the value `db`.
pub record SpellsOne (piece : List ℕ) (m : Matcher) : Type 0 where
  pub before : List ℕ
  pub between : List ℕ
  pub after : List ℕ
  pub raw : List ℕ
  pub behind : List ℕ
  pub parts : piece
      ≡ before ++ (m.name ++ (between ++ (operator_text m.op ++ (after ++ (raw ++ behind)))))
  pub blanks : IsTrue (((is_blank before && is_blank between) && is_blank after) && is_blank behind)
  pub name : IsTrue (is_name m.name)
  pub operator : IsLongest m.op (operator_text m.op ++ (after ++ (raw ++ behind)))
  pub trimmed : IsTrue (is_trimmed raw)
  pub value : HasValue raw m.value

-- A text spells a list of matchers: after its braces are removed, its pieces spell them one by
-- one.
-- Source: Alertmanager configuration reference 0.25, "<matcher>".
-- Example: `{team="db",severity=~"crit.*"}` spells two matchers; the empty text spells the empty
-- list.
abbrev pub Spells : List ℕ → List Matcher → Type 0
Spells text ms = AllZip SpellsOne (matcher_pieces (without_closing (without_opening text))) ms

-- ---- Words.

-- The pieces of words. A single word is the text of a list, and has the pieces of this text. Each
-- of several words is a piece by itself: it is not cut at its commas, and no braces are removed.
abbrev pub pieces_of_words : List (List ℕ) → List (List ℕ)
pieces_of_words [] = []
pieces_of_words (text ∷ []) = matcher_pieces (without_closing (without_opening text))
pieces_of_words (word ∷ next ∷ more) = word ∷ next ∷ more

-- Words spell a list of matchers: their pieces spell them one by one. So one word spells what it
-- spells as a text, and each of several words spells one matcher.
-- Source: amtool 0.25, "config routes test": each label is a word of its own; one word: own choice.
-- Example: `team=db` and `note=a,b` spell two matchers, the second with the value `a,b`;
-- `{team=db` and `note=a}` spell none.
abbrev pub WordsSpell : List (List ℕ) → List Matcher → Type 0
WordsSpell words ms = AllZip SpellsOne (pieces_of_words words) ms
