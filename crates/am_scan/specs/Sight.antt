-- What the assertions of a pattern see of the bytes beside them, and the texts that are scanned.
use Rattle.std.specs.Prelude.{ℕ, Bool, true, false, ◌&&◌, ◌||◌, List, Option, option_map}
use Rattle.std.specs.Prelude.{if◌then◌else◌, ◌==◌, nat_lt, slice_index_or, IsTrue}
use Rattle.std.specs.List.{list_all}
use Rattle.ucd_perl.specs.Perl.{is_word_byte}
use Rattle.regex_hir.specs.declared.look.Look as look
use Rattle.regex_hir.specs.declared.look.Look.TheVariants.{Start, End, StartLf, EndLf}
use Rattle.regex_hir.specs.declared.look.Look.TheVariants.{StartCrlf, EndCrlf}
use Rattle.regex_nfa.specs.declared.state.State.{State}
use Rattle.regex_nfa.specs.declared.state.State.TheVariants.{Look}
use Rattle.am_scan.specs.declared.byte_set.ByteSet.{ByteSet}
use Rattle.am_scan.specs.declared.sight.Sight.{Sight}

-- A byte is scanned if it is in a set of bytes.
-- Source: own choice.
-- Example: if only the bytes of ASCII are in the set, those of `é` are not scanned.
abbrev pub is_scanned : ByteSet → ℕ → Bool
is_scanned bytes b = nat_lt b 256 && slice_index_or bytes.marks b false

-- A text is scanned if its bytes are.
-- Source: own choice.
-- Example: if only the bytes of ASCII are scanned, the text `e` is, and `é` is not.
abbrev pub IsScanned : ByteSet → List ℕ → Type 0
IsScanned bytes text = IsTrue (list_all (is_scanned bytes) text)

-- The kind of a byte. If lines are seen, a line feed and a carriage return are each a kind of their
-- own. If words are seen, letters, digits and `_` are of the kind `a`. All other bytes are of the
-- kind 0.
-- Source: own choice.
-- Example: if only words are seen, the kind of `7` is `a`, and the kind of a line feed is 0.
abbrev pub kind_of : Sight → ℕ → ℕ
kind_of sight b =
    if sight.lines && (b == 10 || b == 13) then b
    else if sight.words && is_word_byte b then 97
    else 0

-- The kind of the byte beside a position, if there is one.
-- Source: own choice.
-- Example: at the edge of a text there is none.
abbrev pub kind_beside : Sight → Option ℕ → Option ℕ
kind_beside sight = option_map (kind_of sight)

-- What is seen is enough for an assertion. For the edge of a text it always is; for the edge of a
-- line, if lines are seen; and for words, if words are seen.
-- Source: own choice.
-- Example: `^` needs nothing to be seen, and `\b` needs words.
abbrev pub sees : Sight → look.Look → Bool
sees sight Start = true
sees sight End = true
sees sight StartLf = sight.lines
sees sight EndLf = sight.lines
sees sight StartCrlf = sight.lines
sees sight EndCrlf = sight.lines
sees sight _ = sight.words

-- What is seen is enough for the assertion of a state, if it has one.
-- Source: own choice.
-- Example: a state that reads a byte needs nothing to be seen.
unfoldable pub sees_state : Sight → State → Bool
sees_state sight (Look l next) = sees sight l
sees_state sight _ = true
