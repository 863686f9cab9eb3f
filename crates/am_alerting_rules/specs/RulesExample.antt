-- A worked example of a rules file: two groups, one of them with labels, with a recording rule, an
-- alerting rule that sets four labels, and one that sets none; what it says; and alerts.
use Rattle.std.specs.Prelude.{List, [], ◌∷◌, codes}
use Rattle.std.specs.FinMap.{from_entries}
use Rattle.serde_json.specs.Data.{Data, string}
use Rattle.am_universe.specs.LabelSet.{LabelMap}
use Rattle.am_json.specs.FormExamples.{object_of, array_of}
use Rattle.am_alerting_rules.specs.RulesFile.{AlertingRule}

-- The rules, the groups, and the file.
abbrev pub recording_rule : Data
recording_rule = object_of ((codes "record", string (codes "job:up:sum")) ∷ [])

abbrev pub disk_full_labels : Data
disk_full_labels = object_of
    ((codes "alertname", string (codes "X")) ∷ (codes "region", string [])
    ∷ (codes "severity", string (codes "warning"))
    ∷ (codes "team", string (codes "{{ $labels.team }}")) ∷ [])

abbrev pub disk_full_rule : Data
disk_full_rule = object_of
    ((codes "alert", string (codes "DiskFull")) ∷ (codes "labels", disk_full_labels) ∷ [])

abbrev pub postgres_down_rule : Data
postgres_down_rule = object_of ((codes "alert", string (codes "PostgresDown")) ∷ [])

abbrev pub node_labels : Data
node_labels =
    object_of ((codes "severity", string (codes "info")) ∷ (codes "site", string (codes "a")) ∷ [])

abbrev pub node_group : Data
node_group = object_of
    ((codes "labels", node_labels) ∷ (codes "name", string (codes "node"))
    ∷ (codes "rules", array_of (recording_rule ∷ disk_full_rule ∷ [])) ∷ [])

abbrev pub db_group : Data
db_group = object_of
    ((codes "name", string (codes "db")) ∷ (codes "rules", array_of (postgres_down_rule ∷ []))
    ∷ [])

abbrev pub rules_example : Data
rules_example = object_of ((codes "groups", array_of (node_group ∷ db_group ∷ [])) ∷ [])

-- What it says.
abbrev pub disk_full : AlertingRule
disk_full = record {
  group = codes "node";
  name = codes "DiskFull";
  labels = (codes "alertname", codes "X") ∷ (codes "region", [])
      ∷ (codes "severity", codes "warning")
      ∷ (codes "team", codes "{{ $labels.team }}") ∷ (codes "site", codes "a") ∷ [];
}

abbrev pub postgres_down : AlertingRule
postgres_down = record { group = codes "db"; name = codes "PostgresDown"; labels = [] }

abbrev pub example_rules : List AlertingRule
example_rules = disk_full ∷ postgres_down ∷ []

-- `{alertname="DiskFull",severity="warning",site="a",team="db"}` is an alert of the first rule.
-- `{alertname="DiskFull",region="eu",severity="warning",site="a",team="db"}` is none, since the
-- rule takes `region` away.
abbrev pub example_alert : LabelMap
example_alert = from_entries
    ((codes "alertname", codes "DiskFull") ∷ (codes "severity", codes "warning")
    ∷ (codes "site", codes "a") ∷ (codes "team", codes "db") ∷ [])

abbrev pub other_alert : LabelMap
other_alert = from_entries
    ((codes "alertname", codes "DiskFull") ∷ (codes "region", codes "eu")
    ∷ (codes "severity", codes "warning") ∷ (codes "site", codes "a")
    ∷ (codes "team", codes "db") ∷ [])
