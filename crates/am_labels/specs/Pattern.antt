-- What a pattern means. It is anchored at both ends. The crate `regex` defines how the anchored
-- text is read, and what it then finds.
use Rattle.std.specs.Prelude.{ℕ, List, ◌++◌, Bool, Option, is_some, option_map, codes, chars}
use Rattle.regex_hir.specs.Re.{Re}
use Rattle.regex_hir.specs.Find.{find_str}
use Rattle.regex_hir.specs.Text.{is_some_and}
use Rattle.regex_syntax.specs.Grammar.{read}
use Rattle.regex_syntax.specs.Verdict.{default_config}

-- The text that the engine compiles for a pattern.
-- Source: Alertmanager configuration reference 0.25, "<matcher>": a pattern is fully anchored.
-- Example: for `db|web` it is `^(?:db|web)$`.
abbrev pub anchored_pattern : List ℕ → List ℕ
anchored_pattern p = codes "^(?:" ++ p ++ codes ")$"

-- What the grammar reads in the anchored text, with the default options, if it reads anything.
unfoldable pub pattern_reading : List ℕ → Option Re
pattern_reading p =
    option_map (λ (found, _). found.value) (read default_config (chars (anchored_pattern p)))

-- The grammar reads the anchored text.
abbrev pub is_pattern : List ℕ → Bool
is_pattern p = is_some (pattern_reading p)

-- A pattern finds a text: what the grammar reads in the anchored pattern has a match in the text.
-- If it reads nothing, the pattern finds no text.
-- Source: own choice.
-- Example: `d.` finds `db` and not `db2`. `a)|(?:b` is read between the anchors, and finds `a`.
abbrev pub finds : List ℕ → List ℕ → Bool
finds p text = is_some_and (pattern_reading p) (λ re. is_some (find_str re text 0))
