-- What a terminal is shown. Some characters could change the terminal, or the order in which it
-- shows the others: control characters other than the line feed, and bidirectional controls. They
-- are hidden: each is shown as an escape.
use Rattle.std.specs.Prelude.{◌≡◌, ℕ, ◌+◌, ◌*◌, ◌%◌, ◌<◌, Bool, true, not, ◌==◌, ◌&&◌, ◌||◌}
use Rattle.std.specs.Prelude.{if◌then◌else◌, List, [], ◌∷◌, ◌++◌, take, drop, slice_index}
use Rattle.std.specs.Char.{is_ascii_control}
use Rattle.std.specs.Char.Escape.{escape_unicode}
use Rattle.std.specs.Int.{is_in_range}
use Rattle.am_universe.specs.Bytes.{line_feed}

-- The bytes of a hidden character of one byte, U+0000 to U+001F and U+007F, of two, U+0080 to
-- U+009F and U+061C, and of three, U+200E, U+200F, U+202A to U+202E and U+2066 to U+2069.
-- Source: The Unicode Standard, chapter 23, "Control Codes"; UAX #9, the formatting characters;
-- RFC 3629, how UTF-8 writes them.
-- Example: `0xe2 0x80 0xae`, which is U+202E.
abbrev pub is_hidden_byte : ℕ → Bool
is_hidden_byte a = is_ascii_control a && not (a == line_feed)

abbrev pub is_hidden_pair : ℕ → ℕ → Bool
is_hidden_pair a b = (a == 0xc2 && is_in_range 0x80 0x9f b) || (a == 0xd8 && b == 0x9c)

abbrev pub is_hidden_triple : ℕ → ℕ → ℕ → Bool
is_hidden_triple a b c = a == 0xe2
    && ((b == 0x80 && (is_in_range 0x8e 0x8f c || is_in_range 0xaa 0xae c))
    || (b == 0x81 && is_in_range 0xa6 0xa9 c))

-- How many bytes the hidden character takes with which a text begins, or 0 if it begins with none.
unfoldable pub hidden_len : List ℕ → ℕ
hidden_len [] = 0
hidden_len (a ∷ text) =
    if is_hidden_byte a then 1
    else if is_hidden_pair a (slice_index text 0) then 2
    else if is_hidden_triple a (slice_index text 0) (slice_index text 1) then 3
    else 0

-- The code point of a character of at most three bytes: the bits that its bytes have for it.
-- Source: RFC 3629, section 3.
-- Example: 0x202e for `0xe2 0x80 0xae`.
abbrev pub code_point : List ℕ → ℕ
code_point (a ∷ b ∷ c ∷ rest) = a % 16 * 4096 + b % 64 * 64 + c % 64
code_point (a ∷ b ∷ []) = a % 32 * 64 + b % 64
code_point (a ∷ []) = a
code_point [] = 0

-- Bytes that were taken in parts, and what a sink that held `start` holds now that they are shown.
-- A part is the hidden character with which a text begins, shown as its escape, or bytes at the
-- front of a text, none of which begins a hidden character, shown as they are. If nothing is to be
-- hidden, as in a file, each part is shown as it is.
-- Source: own choice; the escape is as in a string literal of Rust.
-- Example: `\u{1b}[2J` for the four bytes ESC, `[`, `2` and `J`, which would clear a terminal.
pub data Shows (hides : Bool) (start : List ℕ) : List ℕ → List ℕ → Type 0 where
  nothing : Shows hides start [] start
  hidden : {taken now : List ℕ} → Shows hides start taken now → (text : List ℕ)
      → hides ≡ true → 0 < hidden_len text
      → Shows hides start (taken ++ take (hidden_len text) text)
      (now ++ escape_unicode (code_point (take (hidden_len text) text)))
  plain : {taken now : List ℕ} → Shows hides start taken now → (text : List ℕ) (count : ℕ)
      → (hides ≡ true → (place : ℕ) → place < count → hidden_len (drop place text) ≡ 0)
      → Shows hides start (taken ++ take count text) (now ++ take count text)
