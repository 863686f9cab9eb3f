-- Choices: which value each label of a universe takes. A choice is a list of positions of values,
-- which count from 0. A *whole* choice has a position for each label. A shorter list is a *prefix*
-- of a choice.
use Rattle.std.specs.Prelude.{◌≡◌, ℕ, List, [], ◌∷◌, length, map, Bool, true, false}
use Rattle.std.specs.Prelude.{nat_lt, ◌&&◌, IsTrue}
use Rattle.std.specs.List.{flat_map, range_with_len}

-- All whole choices over labels of these sizes, in declared order. This is the order of a
-- dictionary, in which the first label counts most. Without labels there is one choice, the empty
-- one. No code makes this list. Contracts compare answers with it.
-- Source: own choice.
-- Example: for the sizes 2 and 3 they are 0 0, 0 1, 0 2, 1 0, 1 1 and 1 2.
abbrev pub choices : List ℕ → List (List ℕ)
choices [] = [] ∷ []
choices (size ∷ sizes) = flat_map (λ p. map (λ c. p ∷ c) (choices sizes)) (range_with_len 0 size)

-- A choice is no longer than the list of labels, and each position is below its label's size.
abbrev pub admits : List ℕ → List ℕ → Bool
admits sizes [] = true
admits [] (p ∷ c) = false
admits (size ∷ sizes) (p ∷ c) = nat_lt p size && admits sizes c

-- A whole choice: it has a position for each label, below the size of the label.
abbrev pub IsWhole : List ℕ → List ℕ → Type 0
IsWhole sizes c = IsTrue (admits sizes c) × (length c ≡ length sizes)
