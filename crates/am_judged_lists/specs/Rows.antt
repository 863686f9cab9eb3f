-- What the rows of a list of matchers say of one label.
use Rattle.std.specs.Prelude.{ℕ, List, Bool, false, not, ◌==◌, ◌||◌, Option, Some, None}
use Rattle.std.specs.List.{list_all, list_any}
use Rattle.am_labels.specs.Row.{TruthRow, truth_at}

-- A row is of the label at a position.
abbrev pub is_label : Option ℕ → ℕ → Bool
is_label None i = false
is_label (Some label) i = label == i

-- At least one of some rows is of the label at a position.
abbrev pub is_any_of : List TruthRow → ℕ → Bool
is_any_of rows i = list_any (λ row. is_label row.label i) rows

-- `allows`: a row is true at a position of a label, or is of another label. `all_allow`: each of
-- some rows allows the position.
abbrev pub allows : TruthRow → ℕ → ℕ → Bool
allows row i j = not (is_label row.label i) || truth_at row j

abbrev pub all_allow : List TruthRow → ℕ → ℕ → Bool
all_allow rows i j = list_all (λ row. allows row i j) rows

-- `is_never_true`: a row is of a label that is not declared, and is false, so it is true at no
-- choice. `is_false_without` says this of the parts of a row: its label, if that is declared, and
-- its truth at the position 0.
abbrev pub is_false_without : Option ℕ → Bool → Bool
is_false_without None truth = not truth
is_false_without (Some label) truth = false

abbrev pub is_never_true : TruthRow → Bool
is_never_true row = is_false_without row.label (truth_at row 0)
