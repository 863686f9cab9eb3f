-- Sets of the cubes of a table, and of their indices.
use Rattle.std.specs.Prelude.{ℕ, ◌/◌, ◌%◌, Bool, not, ◌||◌, slice_index_or}
use Rattle.std.specs.List.{list_all, range_with_len}
use Rattle.am_judged_lists.specs.declared.list_set.TheConstants.{ROOM}
use Rattle.am_judged_lists.specs.declared.cube_set.CubeSet.{CubeSet}
use Rattle.am_judged_lists.specs.declared.cube_set.TheConstants.{MAX_CUBES}
use Rattle.am_judged_lists.specs.ListSetView.{has}

-- The cube at an index is in a set: each part of the set has `ROOM` indices.
abbrev pub contains : CubeSet → ℕ → Bool
contains set k =
    has (slice_index_or set.parts (k / ROOM) (record { bits = 0 })) (k % ROOM)

-- Of the indices that a set has room for, the second test passes at each at which the first one
-- does; or at none of them.
-- Source: own choice.
-- Example: if the first test passes at 0 and 5, and the second one at 0, 3 and 5, `is_subset` is
-- true. If the second one passes at 3 alone, `are_apart` is true.
unfoldable pub is_subset : (ℕ → Bool) → (ℕ → Bool) → Bool
is_subset a b = list_all (λ k. not (a k) || b k) (range_with_len 0 MAX_CUBES)

abbrev pub are_apart : (ℕ → Bool) → (ℕ → Bool) → Bool
are_apart a b = is_subset a (λ k. not (b k))
