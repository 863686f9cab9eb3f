-- Which texts a label may have.
use Rattle.std.specs.Prelude.{ℕ, ◌&&◌, Bool, true, List, IsTrue, nat_lt}
use Rattle.std.specs.List.{list_all, AllByRecursion}
use Rattle.std.specs.Str.{IsUtf8}
use Rattle.am_classes.specs.declared.alphabet.Alphabet.{Alphabet}
use Rattle.am_classes.specs.declared.alphabet.Alphabet.TheVariants.{Unicode, Ascii}

-- A byte is printable ASCII: it is the blank, `~`, or a byte between them.
-- Source: RFC 20, section 5.2: the graphic characters, and the space.
-- Example: `a` is printable. A line feed, a tab and the bytes of `é` are not.
abbrev pub is_printable : ℕ → Bool
is_printable b = nat_lt 31 b && nat_lt b 127

-- A text is ordinary: each of its bytes is printable ASCII. The empty text, which is absence, is
-- ordinary too.
-- Source: own choice: a text with other bytes is possible, but rarely meant.
-- Example: `db 1` is ordinary, and `db` followed by a line feed is not.
abbrev pub IsOrdinary : List ℕ → Type 0
IsOrdinary text = IsTrue (list_all is_printable text)

-- A byte is one of an alphabet. For Unicode each byte is, if no other byte is looked at.
abbrev pub has_byte : Alphabet → ℕ → Bool
has_byte Unicode b = true
has_byte Ascii b = is_printable b

-- Each byte of a text is one of an alphabet.
abbrev pub is_over : Alphabet → List ℕ → Bool
is_over a text = list_all (has_byte a) text

-- A text is over an alphabet: over Unicode if it is UTF-8, and over ASCII if it is ordinary.
-- Source: the term is that of formal languages, whose words are over an alphabet. Prometheus data
-- model, "Metric names and labels": the values of labels are UTF-8.
-- Example: `é` is over Unicode only, and `e` is over both.
abbrev pub IsOver : Alphabet → List ℕ → Type 0
IsOver Unicode text = IsUtf8 text
IsOver Ascii text = IsOrdinary text

-- Each of some texts is over an alphabet.
abbrev pub AreOver : Alphabet → List (List ℕ) → Type 0
AreOver a texts = AllByRecursion (IsOver a) texts
