-- What cubes say of a choice: that it meets them, or that it is possible.
use Rattle.std.specs.Prelude.{ℕ, List, Bool, not, ◌&&◌}
use Rattle.std.specs.Borrow.{Bor}
use Rattle.std.specs.List.{list_all}
use Rattle.am_judged_lists.specs.Cube.{MaskedLabels, matches}
use Rattle.am_first_sets.specs.Solving.{avoids}

-- `all_match`: each of some cubes matches a choice. `meets_cubes`: each of the wanted cubes does,
-- and none of the unwanted ones.
abbrev pub all_match : List (Bor MaskedLabels) → List ℕ → Bool
all_match cubes c = list_all (λ cube. matches cube.now c) cubes

abbrev pub meets_cubes : List (Bor MaskedLabels) → List (Bor MaskedLabels) → List ℕ → Bool
meets_cubes wanted unwanted c = all_match wanted c && avoids unwanted c

-- A choice is possible by some cubes if none of them matches it.
-- Source: own choice.
-- Example: by the cube of `team="web",severity="info"` alone, a choice of the team `web` and the
-- severity `critical` is possible.
abbrev pub is_possible_by : List MaskedLabels → List ℕ → Bool
is_possible_by impossible c = list_all (λ cube. not (matches cube c)) impossible
