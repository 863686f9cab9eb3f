-- Firing alerts, and which JSON value says which. (The format that `amtool alert query -o json`
-- writes. The limits, and which fields are ignored, are this project's own.)
use Rattle.std.specs.Prelude.{◌≡◌, ◌≤◌, ℕ, List, length, fold, Some, codes}
use Rattle.std.specs.FinMap as finite
use Rattle.std.specs.List.{AllZip}
use Rattle.serde_json.specs.Data.{Data, object, Members}
use Rattle.am_universe.specs.LabelSet.{LabelMap, with_value}
use Rattle.am_json.specs.Json.{FileSays, field, member_list}
use Rattle.am_json.specs.OptionalItems.{SaysItemsOrNull}
use Rattle.am_list_files.specs.declared.limits.TheConstants.{MAX_ALERTS, MAX_ALERT_LABELS}
use Rattle.am_list_files.specs.NamedText.{SaysNamedText}

-- The label set with these names and texts. A label with the empty text is missing from it.
abbrev pub labels_of : List (List ℕ × List ℕ) → LabelMap
labels_of texts = fold (λ s label. with_value s label.0 label.1) finite.empty texts

-- A JSON value says an alert: it is an object whose field `labels` is an object of names and texts,
-- the labels of the alert. There are at most `MAX_ALERT_LABELS`, and no name is empty. Other fields
-- are ignored.
-- Source: Alertmanager API v2, "alert": `labels`; Alertmanager configuration reference 0.25,
-- "<inhibit_rule>": a missing label and a label with an empty value are the same thing. Own choice:
-- any text but the empty one is a name; the limit, which counts labels with the empty text too;
-- `annotations`, `startsAt`, `status` and others are optional and ignored.
-- Example: `{"labels": {"team": "db", "region": ""}}` says the alert `{team="db"}`.
-- `{"labels": {"team": 1}}` says none.
pub record SaysAlert (d : Data) (s : LabelMap) : Type 0 where
  pub members : Members
  pub has_labels : field (codes "labels") d ≡ Some (object members)
  pub few : length (member_list members) ≤ MAX_ALERT_LABELS
  pub texts : List (List ℕ × List ℕ)
  pub each : AllZip (λ pair label. SaysNamedText pair label.0 label.1) (member_list members) texts
  pub labels : s ≡ labels_of texts

-- A JSON value says a list of alerts: it is an array of at most `MAX_ALERTS` items, each of which
-- says the alert at its position. `null` says the empty list. Each alert of the list counts as
-- firing.
-- Source: Alertmanager API v2, "gettableAlerts". Own choice: the limit; `null` says the empty list;
-- the status of an alert is ignored, so one that is silenced or inhibited fires too.
-- Example: `[]` and `null` say the empty list, and `{}` says no list.
abbrev pub SaysAlerts : Data → List LabelMap → Type 0
SaysAlerts d alerts = SaysItemsOrNull SaysAlert MAX_ALERTS d alerts

-- The bytes of a file, at most `MAX_FILE_BYTES`, say the alerts that their JSON value says.
abbrev pub FileSaysAlerts : List ℕ → List LabelMap → Type 0
FileSaysAlerts bytes alerts = FileSays SaysAlerts bytes alerts
