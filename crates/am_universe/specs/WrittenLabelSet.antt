-- How a label set is written: as in "Notation" of the Prometheus data model, without a metric name
-- and without spaces.
use Rattle.std.specs.Prelude.{ℕ, List, ◌++◌, map, codes}
use Rattle.std.specs.List.{join_with_byte}
use Rattle.std.specs.FinMap.{entries}
use Rattle.am_universe.specs.Bytes.{comma}
use Rattle.am_universe.specs.Text.{quoted_text}
use Rattle.am_universe.specs.Universe.{Label}
use Rattle.am_universe.specs.LabelSet.{LabelMap, label_pairs}

-- A label with its value, as `name="value"`; and such pairs in braces, joined by commas.
abbrev pub pair_text : List ℕ × List ℕ → List ℕ
pair_text pair = pair.0 ++ (codes "=" ++ quoted_text pair.1)

abbrev pub pairs_text : List (List ℕ × List ℕ) → List ℕ
pairs_text pairs = codes "{" ++ (join_with_byte comma (map pair_text pairs) ++ codes "}")

-- The label set of a choice: each label for which it picks a text, in declared order; and its line.
-- Source: Prometheus data model, "Notation"; the order is an own choice.
-- Example: `{team="web",severity="warning"}`; for a choice with no text, `{}`.
abbrev pub set_text : List Label → List ℕ → List ℕ
set_text u c = pairs_text (label_pairs u c)

abbrev pub line : List Label → List ℕ → List ℕ
line u c = set_text u c ++ codes "\n"

-- A label set by itself, with its labels in the order of the bytes of their names.
abbrev pub map_text : LabelMap → List ℕ
map_text s = pairs_text (entries s)
