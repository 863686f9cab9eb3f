-- Rows: a matcher's truth on each value of its label.
use Rattle.std.specs.Prelude.{ℕ, List, [], ◌∷◌, length, map, slice_index, slice_index_or, nat_lt}
use Rattle.std.specs.Prelude.{Bool, true, false, ◌&&◌, Option, Some, None, unwrap_or}
use Rattle.std.specs.List.{list_all}
use Rattle.am_universe.specs.Universe.{Label, values_at, label_position}
use Rattle.am_labels.specs.Matcher.{Matcher, holds}

-- The position of the matcher's label, if it is declared, and the truths on that label's values, in
-- declared order. For a label that is not declared there is one truth.
pub record TruthRow : Type 0 where
  pub label : Option ℕ
  pub truths : List Bool

-- The truth on a value; absence is the empty text.
abbrev pub truth_on_value : Matcher → Option (List ℕ) → Bool
truth_on_value m value = holds m.op m.value (unwrap_or value [])

-- The truths on the values of the label at a position, or on absence alone if the label is not
-- declared.
abbrev pub truths_of : List Label → Matcher → Option ℕ → List Bool
truths_of u m None = truth_on_value m None ∷ []
truths_of u m (Some i) = map (truth_on_value m) (values_at u i)

-- The row of a matcher over the labels of a universe.
abbrev pub row_of : List Label → Matcher → TruthRow
row_of u m =
    record { label = label_position u m.name; truths = truths_of u m (label_position u m.name) }

-- The truth of a row at a position of its label. If the label is not declared, it is the same at
-- every position.
abbrev pub truth_among : Option ℕ → List Bool → ℕ → Bool
truth_among None truths j = slice_index_or truths 0 false
truth_among (Some i) truths j = slice_index_or truths j false

abbrev pub truth_at : TruthRow → ℕ → Bool
truth_at row j = truth_among row.label row.truths j

-- A choice with this number of positions has one for the label. A label that is not declared needs
-- none.
abbrev pub is_reached : Option ℕ → ℕ → Bool
is_reached None n = true
is_reached (Some i) n = nat_lt i n

-- The truth of a row at a choice, which is false if the label is declared and the choice has no
-- position for it; and that of the rows of a list of matchers: each of them is true. Since it is
-- false at a choice that is too short, a list can be judged without a condition on its rows.
abbrev pub row_holds : TruthRow → List ℕ → Bool
row_holds row c =
    is_reached row.label (length c) && truth_at row (slice_index c (unwrap_or row.label 0))

abbrev pub rows_hold : List Label → List Matcher → List ℕ → Bool
rows_hold u ms c = list_all (λ m. row_holds (row_of u m) c) ms
