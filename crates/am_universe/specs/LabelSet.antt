-- Label sets: maps from names to values. A value is a text that is not empty.
use Rattle.std.specs.Prelude.{◌≢◌, ℕ, List, [], ◌∷◌, Option, Some, None}
use Rattle.std.specs.Prelude.{option_and_then, unwrap_or, slice_get}
use Rattle.std.specs.Ordering.{nat_cmp}
use Rattle.std.specs.Cmp.Lexicographic.{slice_cmp}
use Rattle.std.specs.FinMap.{FinMap, get, insert, remove, from_entries}
use Rattle.am_universe.specs.Universe.{Label}

-- A label set: names in the order of their bytes, each with its value.
abbrev pub LabelMap : Type 0
LabelMap = FinMap (slice_cmp nat_cmp) (List ℕ)

-- The value of a label, or the empty text if the label is missing. A missing label and a label with
-- an empty value are the same thing.
-- Source: Alertmanager configuration reference 0.25, "Inhibition-related settings".
-- Example: in `{team="db"}` the value of `team` is `db`, and that of `severity` is empty.
abbrev pub value_of : LabelMap → List ℕ → List ℕ
value_of s name = unwrap_or (get s name) []

-- The set with this value of a label; the empty value removes the label.
abbrev pub with_value : LabelMap → List ℕ → List ℕ → LabelMap
with_value s name [] = remove s name
with_value s name (c ∷ cs) = insert s name (c ∷ cs)

-- The value at a position of a label; `None` if it is absence, or if the label has no such
-- position.
abbrev pub value_at : Label → ℕ → Option (List ℕ)
value_at label position = option_and_then (λ v. v) (slice_get label.values position)

-- The pairs with this label added in front, if it has a text.
abbrev pub with_label : List ℕ → Option (List ℕ) → List (List ℕ × List ℕ) → List (List ℕ × List ℕ)
with_label name None pairs = pairs
with_label name (Some value) pairs = (name, value) ∷ pairs

-- The labels for which a choice picks a text, each with that text, in declared order.
abbrev pub label_pairs : List Label → List ℕ → List (List ℕ × List ℕ)
label_pairs [] c = []
label_pairs (label ∷ u) [] = []
label_pairs (label ∷ u) (p ∷ c) = with_label label.name (value_at label p) (label_pairs u c)

-- The label set of a choice: the labels for which the choice picks a text, each with that text.
-- Source: own choice.
-- Example: let `team` be `db` or `web`, and let `severity` be absent or `warning`. Then the choice
-- 1 0 has the label set `{team="web"}`.
abbrev pub label_set_of : List Label → List ℕ → LabelMap
label_set_of u c = from_entries (label_pairs u c)

-- No label has the empty text.
abbrev pub HasTextsAlone : LabelMap → Type 0
HasTextsAlone s = (name : List ℕ) → get s name ≢ Some []
