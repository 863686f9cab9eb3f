-- The search for choices of a box that no cube of some matches.
use Rattle.std.specs.Prelude.{◌≡◌, ◌↔◌, ℕ, ◌<◌, List, [], ◌∷◌, length, slice_get, slice_index, Some}
use Rattle.std.specs.Prelude.{Bool, true, false, not, IsTrue, if◌then◌else◌}
use Rattle.std.specs.Borrow.{Bor}
use Rattle.std.specs.List.{list_all}
use Rattle.am_universe.specs.Choice.{IsWhole}
use Rattle.am_first_sets.specs.declared.solver.Step.{Step}
use Rattle.am_first_sets.specs.declared.solver.Step.TheVariants.{Done, Refuted, Narrowed, Split}
use Rattle.am_judged_lists.specs.Cube.{MaskedLabels, matches}
use Rattle.am_judged_lists.specs.Boxes.{IsInBox, HasChoice, IsOpen, count_positions}

-- No cube of some matches a choice.
abbrev pub avoids : List (Bor MaskedLabels) → List ℕ → Bool
avoids cubes c = list_all (λ cube. not (matches cube.now c)) cubes

-- The members of a list that are marked: those with `true` at the same position of another list.
abbrev pub marked : {A : Type 0} → List Bool → List A → List A
marked [] xs = []
marked (m ∷ ms) [] = []
marked (m ∷ ms) (x ∷ xs) = if m then x ∷ marked ms xs else marked ms xs

-- A box is an answer: it has a choice, and all its choices are in the box where the search starts,
-- and avoid the cubes.
pub record IsAnswer (start : List (List Bool)) (cubes : List (Bor MaskedLabels))
    (b : List (List Bool)) : Type 0 where
  pub some : HasChoice b
  pub inside : (c : List ℕ) → IsInBox b c → IsInBox start c
  pub avoided : (c : List ℕ) → IsInBox b c → IsTrue (avoids cubes c)

-- There is no answer: each choice of a box is matched by one of the cubes.
abbrev pub NoneAvoids : List (List Bool) → List (Bor MaskedLabels) → Type 0
NoneAvoids start cubes = (c : List ℕ) → IsInBox start c → avoids cubes c ≡ false

-- A box is narrowed: of its choices, only those are taken out that a cube of some matches. These
-- are cubes that were marked before, and others.
pub record IsNarrowed (old new : List (List Bool)) (before after : List (Bor MaskedLabels)) :
    Type 0 where
  pub some : HasChoice old → HasChoice new
  pub inside : (c : List ℕ) → IsInBox new c → IsInBox old c
  pub kept : (c : List ℕ) → IsInBox old c → avoids after c ≡ true → IsInBox new c
  pub more : (c : List ℕ) → avoids after c ≡ true → avoids before c ≡ true

-- What a pass finds of a box. `Done`: all its choices avoid the cubes. `Refuted`: none avoids those
-- that are marked. `Narrowed`: it permits fewer positions than before. `Split`: it is as before,
-- and the label is open for the cube at an index.
abbrev pub IsStep : List (List Bool) → List (List Bool) → List (Bor MaskedLabels)
    → List (Bor MaskedLabels) → Step → Type 0
IsStep old b cubes used Done = (c : List ℕ) → IsInBox b c → IsTrue (avoids cubes c)
IsStep old b cubes used Refuted = NoneAvoids b used
IsStep old b cubes used Narrowed = count_positions b < count_positions old
IsStep old b cubes used (Split k label) =
    (b ≡ old)
    × (k < length cubes)
    × ((cube : Bor MaskedLabels) → slice_get cubes k ≡ Some cube → IsOpen b cube.now label)

-- A test is true of exactly the choices of a box that avoid the cubes, among the whole choices over
-- labels of some sizes.
abbrev pub IsTestOf : List ℕ → (List ℕ → Bool) → List (List Bool) → List (Bor MaskedLabels)
    → Type 0
IsTestOf ns test start cubes =
    (c : List ℕ) → IsWhole ns c
    → IsTrue (test c) ↔ IsInBox start c × IsTrue (avoids cubes c)

-- A position is the least of a label that a choice of a box has which avoids the cubes.
abbrev pub IsLeast : List (List Bool) → List (Bor MaskedLabels) → ℕ → ℕ → Type 0
IsLeast b cubes label position =
    (c : List ℕ) → IsInBox b c → IsTrue (avoids cubes c) → slice_index c label < position → ⊥
