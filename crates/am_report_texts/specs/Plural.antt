-- The ending of a word for a number of things. (This project's own.)
use Rattle.std.specs.Prelude.{ℕ, List, codes, ◌==◌, if◌then◌else◌}

-- The ending of a word for this number of things: empty for one, and `s` otherwise.
-- Source: own choice.
-- Example: `# 1 finding, 2 notes`.
abbrev pub plural : ℕ → List ℕ
plural n = if n == 1 then codes "" else codes "s"
