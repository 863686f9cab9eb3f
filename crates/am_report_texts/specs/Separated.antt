-- Lists of things as a text, with separators.
use Rattle.std.specs.Prelude.{ℕ, List, [], ◌∷◌, ◌++◌, ◌==◌, if◌then◌else◌}

-- The texts of some things, each after a separator: `first` before the first, and `gap` before each
-- other one.
abbrev pub texts_behind : {X : Type 0} → List ℕ → List ℕ → (X → List ℕ) → List X → List ℕ
texts_behind first gap text [] = []
texts_behind first gap text (x ∷ xs) = first ++ (text x ++ texts_behind gap gap text xs)

-- The separator before the thing at a position.
abbrev pub gap_before : ℕ → List ℕ → List ℕ → List ℕ
gap_before i first gap = if i == 0 then first else gap
