-- Names for the ASCII bytes that have a meaning of their own in a text.
use Rattle.std.specs.Prelude.{ℕ}

-- Each is named after its character, as `comma` for `,`.
abbrev pub line_feed : ℕ
line_feed = 10

abbrev pub double_quote : ℕ
double_quote = 34

abbrev pub left_parenthesis : ℕ
left_parenthesis = 40

abbrev pub right_parenthesis : ℕ
right_parenthesis = 41

abbrev pub comma : ℕ
comma = 44

abbrev pub hyphen : ℕ
hyphen = 45

abbrev pub slash : ℕ
slash = 47

abbrev pub colon : ℕ
colon = 58

abbrev pub left_bracket : ℕ
left_bracket = 91

abbrev pub backslash : ℕ
backslash = 92

abbrev pub underscore : ℕ
underscore = 95

abbrev pub letter_n : ℕ
letter_n = 110

abbrev pub left_brace : ℕ
left_brace = 123

abbrev pub right_brace : ℕ
right_brace = 125

abbrev pub tilde : ℕ
tilde = 126
