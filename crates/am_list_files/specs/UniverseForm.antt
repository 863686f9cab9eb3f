-- The form of a universe file, and its first fault. (This project's own form.)
use Rattle.std.specs.Prelude.{◌≡◌, ℕ, List, [], length, if◌then◌else◌, Option, Some, None, codes}
use Rattle.serde_json.specs.Data.{Data}
use Rattle.am_universe.specs.declared.limits.TheConstants.{MAX_LABELS}
use Rattle.am_universe.specs.Universe.{Values, Label, name_fault, count_fault, value_fault}
use Rattle.am_labels.specs.declared.limits.TheConstants.{MAX_IMPOSSIBLE}
use Rattle.am_labels.specs.Matcher.{Matcher}
use Rattle.am_labels.specs.Space.{Space}
use Rattle.am_json.specs.Json.{is_null}
use Rattle.am_json.specs.Objections.{first_fault, IsRefusedFor}
use Rattle.am_json.specs.OptionalItems.{read_optional_array}
use Rattle.am_json.specs.Pointer.{Refusal, to_field}
use Rattle.am_json.specs.Reading.{Form, Reading, ◌>>=◌, accept, reading_within, refuse_for}
use Rattle.am_json.specs.Reading.{check_count, read_items, as_text, check_only_fields}
use Rattle.am_json.specs.Reading.{required_text}
use Rattle.am_json.specs.Reading.{required_items, read_json}
use Rattle.am_list_files.specs.MatcherTexts.{matcher_text_form}
use Rattle.am_list_files.specs.UniverseFile.{file_fields, label_fields}

-- A value of a label: a text, or `null`.
abbrev pub value_form : Form Data (Option (List ℕ))
value_form d = if is_null d then accept None else as_text d >>= λ text. accept (Some text)

-- A value of a label, after the values that were read before it.
unfoldable pub next_value_form : Values → Data → Reading (Option (List ℕ))
next_value_form before d = do
  value ← value_form d
  _ ← refuse_for (value_fault before value)
  accept value

-- The values of a label.
unfoldable pub values_form : Form (List Data) Values
values_form items = do
  _ ← refuse_for (count_fault (length items))
  read_items next_value_form [] items

-- A label, after the labels that were read before it.
unfoldable pub next_label_form : List Label → Data → Reading Label
next_label_form u d = do
  _ ← check_only_fields label_fields d
  name ← required_text (codes "name") d
  _ ← reading_within (to_field (codes "name")) (refuse_for (name_fault u name))
  items ← required_items (codes "values") d
  values ← reading_within (to_field (codes "values")) (values_form items)
  accept (record { name = name; values = values })

-- The labels of the file.
unfoldable pub labels_form : Form (List Data) (List Label)
labels_form items = do
  _ ← check_count MAX_LABELS (length items)
  read_items next_label_form [] items

-- The labels in the field `labels`.
unfoldable pub all_labels_form : Form Data (List Label)
all_labels_form d = do
  items ← required_items (codes "labels") d
  reading_within (to_field (codes "labels")) (labels_form items)

-- An impossible list of matchers. All its faults are at its text.
unfoldable pub impossible_form : Form Data (List Matcher)
impossible_form d = do
  text ← as_text d
  matcher_text_form [] [] text

-- The lists in the field `impossible`.
abbrev pub all_lists_form : Form Data (List (List Matcher))
all_lists_form d = read_optional_array (codes "impossible") MAX_IMPOSSIBLE impossible_form d

-- The space of a value.
unfoldable pub universe_form : Form Data Space
universe_form d = do
  _ ← check_only_fields file_fields d
  labels ← all_labels_form d
  impossible ← all_lists_form d
  accept (record { labels = labels; impossible = impossible })

-- The space of the bytes of a file.
unfoldable pub universe_file_form : Form (List ℕ) Space
universe_file_form bytes = do
  d ← read_json bytes
  universe_form d

-- ---- The first fault.

-- The refusal is the first fault of a JSON value, or of the bytes of a file.
abbrev pub IsFirstFaultOfUniverse : Data → Refusal → Type 0
IsFirstFaultOfUniverse d r = first_fault (universe_form d).objections ≡ Some r

abbrev pub IsFirstFaultOfUniverseFile : List ℕ → Refusal → Type 0
IsFirstFaultOfUniverseFile bytes r = first_fault (universe_file_form bytes).objections ≡ Some r

-- What a file may be refused for: its first fault, or a pattern with no fault before it.
abbrev pub UniverseFileRefusedFor : List ℕ → Refusal → Type 0
UniverseFileRefusedFor bytes r = IsRefusedFor (universe_file_form bytes).objections r
