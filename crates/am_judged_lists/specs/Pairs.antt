-- Pairs of choices over the same labels. A pair is one choice over twice as many labels: the label
-- `2 * i` has the position of the label `i` of the first choice, and the label `2 * i + 1` that of
-- the second.
use Rattle.std.specs.Prelude.{◌≡◌, ◌+◌, ◌*◌, ◌/◌, ◌==◌, ℕ, List, Bool, length, map, slice_index}
use Rattle.std.specs.Prelude.{if◌then◌else◌}
use Rattle.std.specs.List.{list_all, list_any, range_with_len}
use Rattle.am_judged_lists.specs.declared.pairs.Side.{Side}
use Rattle.am_judged_lists.specs.declared.pairs.Side.TheVariants.{First, Second}
use Rattle.am_judged_lists.specs.Boxes.{box_permits}

-- Two choices have the same positions at some labels.
-- Source: own choice.
-- Example: the choices 0 1 and 2 1 have the same position at the second label, but not at the
-- first.
abbrev pub are_same_at : List ℕ → List ℕ → List ℕ → Bool
are_same_at shared c d = list_all (λ i. slice_index c i == slice_index d i) shared

-- A label is one of the shared labels.
abbrev pub is_shared : List ℕ → ℕ → Bool
is_shared shared label = list_any (λ i. i == label) shared

-- The place of a label of one side: the label of a pair at which it is seen. A label that both
-- sides share has one place, that of the first choice.
-- Source: own choice.
-- Example: of two labels the second is shared. The places of the first choice are 0 2, and those
-- of the second are 1 2.
abbrev pub place_of : Side → List ℕ → ℕ → ℕ
place_of First shared label = 2 * label
place_of Second shared label = if is_shared shared label then 2 * label else 2 * label + 1

-- What is seen of a pair on one side: a choice over this number of labels.
-- Source: own choice.
-- Example: if no label is shared, the choice 4 6 is seen on the first side of the pair 4 5 6 7.
abbrev pub seen : Side → List ℕ → ℕ → List ℕ → List ℕ
seen side shared labels e =
    map (λ label. slice_index e (place_of side shared label)) (range_with_len 0 labels)

-- A box of pairs: both sides may have the positions that another box permits.
pub record IsTwice (b pairs : List (List Bool)) : Type 0 where
  pub long : length pairs ≡ 2 * length b
  pub each : (label position : ℕ)
      → box_permits pairs label position ≡ box_permits b (label / 2) position
