-- The universe file: which JSON value says which space. (This project's own format.)
use Rattle.std.specs.Prelude.{◌≡◌, ◌≤◌, ℕ, List, [], ◌∷◌, length, Option, Some, None}
use Rattle.std.specs.Prelude.{option_and_then, codes, IsTrue, map}
use Rattle.std.specs.List.{AllZip}
use Rattle.serde_json.specs.Data.{Data, null, string}
use Rattle.am_universe.specs.Universe.{Label, IsUniverse, HaveLabelNames}
use Rattle.am_labels.specs.declared.limits.TheConstants.{MAX_MATCHERS, MAX_IMPOSSIBLE}
use Rattle.am_labels.specs.Matcher.{Matcher}
use Rattle.am_labels.specs.MatcherRefusals.{have_valid_patterns}
use Rattle.am_labels.specs.Space.{Space}
use Rattle.am_json.specs.Json.{FileSays, field, items_of, HasOnlyFields}
use Rattle.am_json.specs.OptionalItems.{HasItems, SaysItemsInField}
use Rattle.am_list_files.specs.MatcherTexts.{SaysMatcherText}

-- The fields of a universe file.
abbrev pub file_fields : List (List ℕ)
file_fields = codes "labels" ∷ codes "impossible" ∷ []

-- The fields of a label in a universe file.
abbrev pub label_fields : List (List ℕ)
label_fields = codes "name" ∷ codes "values" ∷ []

-- ---- Which value says which space.

-- A JSON value says a label: it is an object with the fields `name`, which is a text, and `values`,
-- which is an array of the values in order. It has no other field. An item that is a text says that
-- text, and `null` says absence.
-- Source: own choice.
-- Example: `{"name": "team", "values": ["db", null]}` says the label `team` with the values `db`
-- and absence. With another field `x` it says no label, unless `x` is `null`.
abbrev pub SaysValue : Data → Option (List ℕ) → Type 0
SaysValue d None = d ≡ null
SaysValue d (Some text) = d ≡ string text

pub record SaysLabel (d : Data) (label : Label) : Type 0 where
  pub only : HasOnlyFields label_fields d
  pub name : field (codes "name") d ≡ Some (string label.name)
  pub items : List Data
  pub is_array : option_and_then items_of (field (codes "values") d) ≡ Some items
  pub values : AllZip SaysValue items label.values

-- An item of `impossible` says a list of matchers: it is a text that spells them. There are at most
-- `MAX_MATCHERS`, and if the operator of one takes a pattern, its value is a valid one.
-- Source: own choice.
-- Example: `team=db,severity=info` says a list of two matchers. `{}` says the empty list, which
-- matches every label set. `team` and `team=~(` say none.
pub record SaysImpossible (d : Data) (ms : List Matcher) : Type 0 where
  pub text : SaysMatcherText d ms
  pub few : length ms ≤ MAX_MATCHERS
  pub valid_patterns : IsTrue (have_valid_patterns ms)

-- A JSON value says a space: it is an object with the field `labels`, the optional field
-- `impossible`, and no other field. The items of `labels` say the labels of the space, in order,
-- and these are a universe, in which each label has a label name. The items of `impossible`, at
-- most `MAX_IMPOSSIBLE`, say the lists of matchers that are impossible. If the field is absent,
-- nothing is impossible.
-- Source: own choice.
-- Example: `{"labels": []}` says the space without labels, in which nothing is impossible.
-- `{"labels": [{"name": "a", "values": ["x", "x"]}]}` says none, since a value occurs twice.
-- `{"labels": [{"name": "a", "values": ["x", "y"]}], "impossible": ["a=y"]}` says a space in which
-- the label `a` has two values, of which the second never occurs.
pub record SaysUniverse (d : Data) (s : Space) : Type 0 where
  pub only : HasOnlyFields file_fields d
  pub items : List Data
  pub is_array : option_and_then items_of (field (codes "labels") d) ≡ Some items
  pub labels : AllZip SaysLabel items s.labels
  pub is_universe : IsUniverse s.labels
  pub named : HaveLabelNames s.labels
  pub impossible : SaysItemsInField SaysImpossible (codes "impossible") MAX_IMPOSSIBLE d
      s.impossible

-- The bytes of a file, at most `MAX_FILE_BYTES`, say the space that their JSON value says.
abbrev pub FileSaysUniverse : List ℕ → Space → Type 0
FileSaysUniverse bytes s = FileSays SaysUniverse bytes s

-- ---- The texts of its impossible lists.

-- The texts are those of these lists of matchers: as an item of `impossible`, each text says the
-- list at its position. There are as many texts as lists, and at most `MAX_IMPOSSIBLE`.
-- Source: own choice.
-- Example: `a=y` is a text of the list with the one matcher `a="y"`, and so is `{a="y"}`. The lists
-- `a="y"` and `b="z"` have the texts `a=y` and `b=z`, in this order, and not `a=y` alone.
pub record AreTextsOfLists (texts : List (List ℕ)) (lists : List (List Matcher)) : Type 0 where
  pub few : length texts ≤ MAX_IMPOSSIBLE
  pub each : AllZip SaysImpossible (map string texts) lists

-- The items of `impossible` are these texts, word for word and in order. If the field is absent,
-- there are none. `FileHasImpossibleTexts` says the same of the bytes of a file.
-- Source: own choice.
-- Example: `{"labels": [], "impossible": ["a=y"]}` has the text `a=y`. It does not have `a="y"`,
-- which says the same. `{"labels": []}` has no text.
abbrev pub HasImpossibleTexts : Data → List (List ℕ) → Type 0
HasImpossibleTexts d texts = HasItems (codes "impossible") d (map string texts)

abbrev pub FileHasImpossibleTexts : List ℕ → List (List ℕ) → Type 0
FileHasImpossibleTexts bytes texts = FileSays HasImpossibleTexts bytes texts
