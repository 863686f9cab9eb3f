use Rattle.std.proofs.Common.{◌≡◌, ◌++◌, ℕ, List, take}
use Rattle.std.specs.Borrow.{Bor}
use Rattle.am_judged_lists.specs.Cube.{MaskedLabels}
use Rattle.am_first_sets.specs.Meeting.{is_possible_by}
use Rattle.am_first_sets.specs.Solving.{avoids}
use Rattle.am_first_sets.proofs.possible_choices.PossibleChoices.cubes_against.Given as goal

-- the impossible cubes so far are added
abbrev pub invariant-loop-cube : goal.invariant-loop-cube
invariant-loop-cube l =
    (more : List (Bor MaskedLabels)) × (l.cubes.items ≡ l.unwanted ++ more)
    × ((c : List ℕ) → avoids more c ≡ is_possible_by (take l.cube-index l.self.impossible.items) c)
