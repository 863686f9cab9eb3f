-- The form of an export of alerts, and its first fault. (The form that `amtool alert query -o json`
-- writes; the order and the limits are this project's own.)
use Rattle.std.specs.Prelude.{◌≡◌, ℕ, List, length, Some, codes}
use Rattle.std.specs.FinMap as finite
use Rattle.serde_json.specs.Data.{Data}
use Rattle.am_universe.specs.LabelSet.{LabelMap, with_value}
use Rattle.am_json.specs.Json.{member_list}
use Rattle.am_json.specs.Objections.{first_fault}
use Rattle.am_json.specs.Pointer.{Refusal, to_field}
use Rattle.am_json.specs.Reading.{Form, ◌>>=◌, accept, reading_within, check_count}
use Rattle.am_json.specs.Reading.{read_each}
use Rattle.am_json.specs.Reading.{read_items_or_null, as_object, required_field, read_json}
use Rattle.am_list_files.specs.declared.limits.TheConstants.{MAX_ALERTS, MAX_ALERT_LABELS}
use Rattle.am_list_files.specs.NamedText.{named_text_form}

-- The labels before this one, with its name and text added. The empty text leaves the label out.
unfoldable pub next_label_form : LabelMap → Form (List ℕ × Data) LabelMap
next_label_form before pair = do
  text ← reading_within (to_field pair.0) (named_text_form pair.0 pair.1)
  accept (with_value before pair.0 text)

-- The labels of an alert.
unfoldable pub alert_labels_form : Form Data LabelMap
alert_labels_form d = do
  members ← as_object d
  _ ← check_count MAX_ALERT_LABELS (length (member_list members))
  read_each next_label_form finite.empty (member_list members)

-- An alert. Its other fields are not read.
unfoldable pub alert_form : Form Data LabelMap
alert_form d = do
  _ ← as_object d
  value ← required_field (codes "labels") d
  reading_within (to_field (codes "labels")) (alert_labels_form value)

-- The alerts of a value.
abbrev pub alerts_form : Form Data (List LabelMap)
alerts_form d = read_items_or_null MAX_ALERTS alert_form d

-- The alerts of the bytes of a file.
unfoldable pub alerts_file_form : Form (List ℕ) (List LabelMap)
alerts_file_form bytes = do
  d ← read_json bytes
  alerts_form d

-- ---- The first fault.

-- The refusal is the first fault of a JSON value, or of the bytes of a file.
abbrev pub IsFirstFaultOfAlerts : Data → Refusal → Type 0
IsFirstFaultOfAlerts d r = first_fault (alerts_form d).objections ≡ Some r

abbrev pub IsFirstFaultOfAlertsFile : List ℕ → Refusal → Type 0
IsFirstFaultOfAlertsFile bytes r = first_fault (alerts_file_form bytes).objections ≡ Some r
