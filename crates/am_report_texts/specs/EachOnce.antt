-- Texts, each once.
use Rattle.std.specs.Prelude.{ℕ, List, [], ◌∷◌, ◌++◌, fold, if◌then◌else◌}
use Rattle.std.specs.List.{list_any}
use Rattle.am_universe.specs.Text.{same_text}

-- Texts with one more at the end, unless it is there; and texts, each once, in the order in which
-- they first occur.
-- Source: own choice.
-- Example: `a`, `b` and `a` are `a` and `b`.
abbrev pub with_text : List (List ℕ) → List ℕ → List (List ℕ)
with_text texts text = if list_any (same_text text) texts then texts else texts ++ text ∷ []

abbrev pub each_once : List (List ℕ) → List (List ℕ)
each_once texts = fold with_text [] texts
