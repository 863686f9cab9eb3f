-- Texts, as lists of bytes, and how a text is written between quotes.
use Rattle.std.specs.Prelude.{ℕ, List, [], ◌∷◌, ◌++◌, Bool, nat_eq, ◌==◌, if◌then◌else◌, codes}
use Rattle.std.specs.List.{flat_map}
use Rattle.am_universe.specs.Bytes.{backslash, double_quote, line_feed}
use lib.Pointwise.{pointwise}

-- Tests whether two texts have the same bytes.
abbrev pub same_text : List ℕ → List ℕ → Bool
same_text = pointwise nat_eq

-- A byte of a quoted text: `\` is written `\\`, `"` is written `\"`, a line feed is written `\n`,
-- and any other byte stands for itself.
-- Source: Prometheus text exposition format, the escapes of a label value.
-- Example: `"` is written as the two bytes `\"`, and `a` as itself.
abbrev pub label_value_escape : ℕ → List ℕ
label_value_escape c =
    if c == backslash then codes "\\\\"
    else if c == double_quote then codes "\\\""
    else if c == line_feed then codes "\\n"
    else c ∷ []

-- A text between quotes, each of its bytes escaped.
abbrev pub quoted_text : List ℕ → List ℕ
quoted_text text = codes "\"" ++ (flat_map label_value_escape text ++ codes "\"")
