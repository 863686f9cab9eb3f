-- The lines of reports. (This project's own.)
use Rattle.std.specs.Prelude.{◌≡◌, ℕ, List, ◌++◌, Bool, not, ◌==◌, codes, IsTrue}
use Rattle.std.specs.List.{list_all}
use Rattle.am_universe.specs.Bytes.{line_feed}

-- A text has no line feed.
abbrev pub is_unbroken : List ℕ → Bool
is_unbroken text = list_all (λ c. not (c == line_feed)) text

-- A text is one line: its last byte is a line feed, and no other is. So nothing that stands in it
-- ends the line, or begins another one.
-- Source: own choice.
-- Example: `# end` with a line feed is one. Without it, it is none, nor are two such lines.
abbrev pub IsLine : List ℕ → Type 0
IsLine text = (body : List ℕ) × IsTrue (is_unbroken body) × (text ≡ body ++ codes "\n")
