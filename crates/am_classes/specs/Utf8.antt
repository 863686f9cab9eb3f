-- The ends of texts in UTF-8, read byte by byte from the end.
use Rattle.std.specs.Prelude.{ℕ, Bool, true, false, List, [], ◌∷◌, if◌then◌else◌, nat_lt, ◌==◌}
use Rattle.std.specs.Prelude.{Option, Some, None, option_and_then}
use Rattle.am_classes.specs.declared.alphabet.Alphabet.{Alphabet}
use Rattle.am_classes.specs.Alphabet.{has_byte}
use Rattle.am_classes.specs.declared.tail.Tail.{Tail}
use Rattle.am_classes.specs.declared.tail.Tail.TheVariants.{Whole, One, TwoLow, TwoHigh}
use Rattle.am_classes.specs.declared.tail.Tail.TheVariants.{ThreeLow, ThreeHigh}

-- The tail with one more byte before it, if UTF-8 allows such a byte there.
-- Source: The Unicode Standard, table 3-7, "Well-Formed UTF-8 Byte Sequences", read from the right.
-- Example: before a byte `A9` there can only be `C2` to `DF`, or another byte of the same
-- character.
abbrev pub tail_step : Tail → ℕ → Option Tail
tail_step Whole b =
    if nat_lt b 0x80 then Some Whole else if nat_lt b 0xC0 then Some One else None
tail_step One b =
    if nat_lt b 0x80 then None else if nat_lt b 0xA0 then Some TwoLow
    else if nat_lt b 0xC0 then Some TwoHigh else if nat_lt b 0xC2 then None
    else if nat_lt b 0xE0 then Some Whole else None
tail_step TwoLow b =
    if nat_lt b 0x80 then None else if nat_lt b 0x90 then Some ThreeLow
    else if nat_lt b 0xC0 then Some ThreeHigh else if nat_lt b 0xE1 then None
    else if nat_lt b 0xF0 then Some Whole else None
tail_step TwoHigh b =
    if nat_lt b 0x80 then None else if nat_lt b 0x90 then Some ThreeLow
    else if nat_lt b 0xC0 then Some ThreeHigh else if nat_lt b 0xE0 then None
    else if b == 0xED then None else if nat_lt b 0xF0 then Some Whole else None
tail_step ThreeLow b =
    if nat_lt b 0xF1 then None else if nat_lt b 0xF5 then Some Whole else None
tail_step ThreeHigh b =
    if nat_lt b 0xF0 then None else if nat_lt b 0xF4 then Some Whole else None

-- The same, for texts that have only certain bytes.
-- Source: own choice.
-- Example: if a text has only bytes of ASCII, it has no `A9` before its end.
abbrev pub text_step : (ℕ → Bool) → Tail → ℕ → Option Tail
text_step may tail b = if may b then tail_step tail b else None

-- The tail of some bytes, if a text that has only certain bytes can end with them.
-- Source: The Unicode Standard, table 3-7, "Well-Formed UTF-8 Byte Sequences".
-- Example: if a text may have each byte, `C3 A9` is whole. `A9` is one byte of a character that
-- begins further in front. No text ends with `C3`.
abbrev pub tail_with : (ℕ → Bool) → List ℕ → Option Tail
tail_with may [] = Some Whole
tail_with may (b ∷ text) = option_and_then (λ tail. text_step may tail b) (tail_with may text)

-- The same for all texts over an alphabet.
-- Source: own choice.
-- Example: over ASCII, no text ends with `A9` or with `C3`.
abbrev pub tail_of : Alphabet → List ℕ → Option Tail
tail_of a text = tail_with (has_byte a) text

-- A character begins at the front, or the text ends there.
abbrev pub is_whole : Tail → Bool
is_whole Whole = true
is_whole One = false
is_whole TwoLow = false
is_whole TwoHigh = false
is_whole ThreeLow = false
is_whole ThreeHigh = false
