-- The lexemes of a question's text. The text is a list of bytes, and a character is one byte here.
-- (This project's own.)
use Rattle.std.specs.Prelude.{◌≡◌, ℕ, List, [], ◌∷◌, take, drop, slice_index, Bool, not, ◌||◌, ◌==◌}
use Rattle.std.specs.Prelude.{IsTrue, IsFalse, if◌then◌else◌, Option, Some, None, option_map}
use Rattle.std.specs.List.{prefix_len}
use Rattle.am_universe.specs.Bytes.{double_quote, left_parenthesis, right_parenthesis}
use Rattle.am_universe.specs.Bytes.{backslash, left_brace}
use Rattle.am_labels.specs.MatcherText.{is_space, is_blank, has_escape, byte_of_escape}
use Rattle.am_labels.specs.BraceList.{brace_len}

-- A lexeme: a parenthesis, a word, a text in quotes, or a list of matchers with its braces.
pub data Lexeme : Type 0 where
  Open : Lexeme
  Close : Lexeme
  Word : List ℕ → Lexeme
  Quoted : List ℕ → Lexeme
  BraceList : List ℕ → Lexeme

-- A character of a word: any but whitespace, parentheses, an opening brace and a quote.
abbrev pub is_word_character : ℕ → Bool
is_word_character c =
    not (is_space c || c == left_parenthesis || c == right_parenthesis || c == left_brace
    || c == double_quote)

-- A character that is written as itself between quotes: any but a quote and a backslash.
abbrev pub is_plain : ℕ → Bool
is_plain c = not (c == double_quote || c == backslash)

-- What is read, with this byte put in front of its value.
abbrev pub begun_with : ℕ → Option (List ℕ × List ℕ) → Option (List ℕ × List ℕ)
begun_with c read = option_map (λ p. (c ∷ p.0, p.1)) read

-- What the text after an opening quote stands for, and the text after the closing quote. A quote is
-- written as `\"`, a backslash as `\\`, and a line feed may be written as `\n`. A backslash before
-- any other character is refused, and so is a text that no quote closes.
-- Source: own choice.
-- Example: `a\"b" and` stands for `a"b`, and is followed by ` and`.
unfoldable pub read_quoted : List ℕ → Option (List ℕ × List ℕ)
read_quoted [] = None
read_quoted (c ∷ []) = if c == double_quote then Some ([], []) else None
read_quoted (c ∷ d ∷ more) =
    if c == double_quote then Some ([], d ∷ more)
    else (if not (c == backslash) then begun_with c (read_quoted (d ∷ more))
    else (if has_escape d then begun_with (byte_of_escape d) (read_quoted more) else None))

-- A lexeme made of the first bytes of a text, and the rest of the text.
abbrev pub cut : (List ℕ → Lexeme) → List ℕ → ℕ → Lexeme × List ℕ
cut lexeme text n = (lexeme (take n text), drop n text)

-- A value as a lexeme in quotes, and the rest of the text.
abbrev pub quoted_lexeme : List ℕ × List ℕ → Lexeme × List ℕ
quoted_lexeme p = (Quoted p.0, p.1)

-- The lexeme that a text begins with, if it does not begin with whitespace, and the rest of the
-- text: `(`, `)`, a text in quotes, a list of matchers up to and including the brace that closes
-- it, or else a word, which is as long as it can be.
-- Source: own choice.
-- Example: `{a="}"} b` begins with the list `{a="}"}`, and `any)` with the word `any`.
unfoldable pub read_lexeme : List ℕ → Option (Lexeme × List ℕ)
read_lexeme text =
    if slice_index text 0 == left_parenthesis then Some (Open, drop 1 text)
    else (if slice_index text 0 == right_parenthesis then Some (Close, drop 1 text)
    else (if slice_index text 0 == double_quote
    then option_map quoted_lexeme (read_quoted (drop 1 text))
    else (if slice_index text 0 == left_brace
    then option_map (cut BraceList text) (brace_len text)
    else Some (cut Word text (prefix_len is_word_character text)))))

-- The lexemes of a text. There may be whitespace before each of them, and after the last.
-- Source: own choice.
-- Example: `receiver"r"` has two lexemes, a word and a text in quotes, and `not(any)` has four.
abbrev pub SpellsLexemes : List ℕ → List Lexeme → Type 0
SpellsLexemes text [] = IsTrue (is_blank text)
SpellsLexemes text (lexeme ∷ lexemes) =
    (rest : List ℕ) × (read_lexeme (drop (prefix_len is_space text) text) ≡ Some (lexeme, rest))
    × IsFalse (is_blank text) × SpellsLexemes rest lexemes
