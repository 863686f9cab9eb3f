-- The text of a universe file. (This project's own form, in the layout of its examples.)
use Rattle.std.specs.Prelude.{ℕ, List, [], ◌∷◌, ◌++◌, Option, Some, None, codes}
use Rattle.json.specs.Print.{quoted}
use Rattle.am_universe.specs.Universe.{Label, Values}
use Rattle.am_report_texts.specs.Separated.{texts_behind}

-- A value of a label: a text in quotes, or `null` for absence.
abbrev pub value_text : Option (List ℕ) → List ℕ
value_text None = codes "null"
value_text (Some text) = quoted text

-- The values of a label, with a comma between each two.
abbrev pub values_text : Values → List ℕ
values_text values = texts_behind [] (codes ", ") value_text values

-- A label, on one line.
-- Source: own choice.
-- Example: `{"name": "team", "values": ["db", null]}`.
abbrev pub label_text : Label → List ℕ
label_text label =
    codes "{\"name\": " ++ (quoted label.name
    ++ (codes ", \"values\": [" ++ (values_text label.values ++ codes "]}")))

-- The labels, each on a line of its own.
abbrev pub labels_text : List Label → List ℕ
labels_text u = texts_behind (codes "\n  ") (codes ",\n  ") label_text u

-- The texts of impossible lists, each in quotes on a line of its own.
abbrev pub lists_text : List (List ℕ) → List ℕ
lists_text texts = texts_behind (codes "\n  ") (codes ",\n  ") quoted texts

-- The field of the impossible lists, which follows the labels. It is left out if there are no
-- lists.
-- Source: own choice.
-- Example: for the text `team=web` it is `, "impossible": [`, a line feed, two spaces,
-- `"team=web"`, a line feed and `]`.
abbrev pub impossible_text : List (List ℕ) → List ℕ
impossible_text [] = []
impossible_text (text ∷ texts) =
    codes ", \"impossible\": [" ++ (lists_text (text ∷ texts) ++ codes "\n]")

-- The file: an object with the labels and, if there are impossible lists, their texts.
-- Source: own choice.
-- Example: without labels and lists it is `{"labels": [`, a line feed, `]}` and a line feed.
abbrev pub universe_text : List Label → List (List ℕ) → List ℕ
universe_text u impossible =
    codes "{\"labels\": [" ++ (labels_text u
    ++ (codes "\n]" ++ (impossible_text impossible ++ codes "}\n")))
