-- Alerting rules, and which JSON value says which. (Prometheus documentation, "Alerting rules" and
-- "Recording rules": the form of a rules file, here as JSON. The limits are this project's own.)
use Rattle.std.specs.Prelude.{◌≡◌, ◌≢◌, ◌⊎◌, ◌≤◌, ℕ, List, [], ◌++◌, length, map, not}
use Rattle.std.specs.Prelude.{Option, Some, None, option_and_then, codes}
use Rattle.std.specs.List.{AllByRecursion, AllZip, filter, filter_map, flat_map, list_any}
use Rattle.serde_json.specs.Data.{Data, string, object, Members}
use Rattle.am_universe.specs.Text.{same_text}
use Rattle.am_json.specs.Json.{FileSays, field, items_of, member_list}
use Rattle.am_json.specs.OptionalItems.{HasItems}
use Rattle.am_list_files.specs.NamedText.{SaysNamedText}
use Rattle.am_alerting_rules.specs.declared.limits.TheConstants.{MAX_GROUPS, MAX_RULE_LABELS}
use Rattle.am_alerting_rules.specs.declared.limits.TheConstants.{MAX_ALERTING_RULES}

-- An alerting rule: the name of its group, its own name, and the labels that it sets, those of its
-- group included, each with its name and its text, which may be a template.
pub record AlertingRule : Type 0 where
  pub group : List ℕ
  pub name : List ℕ
  pub labels : List (List ℕ × List ℕ)

-- An alerting rule has a name, and so has each of its labels.
pub record HasNames (r : AlertingRule) : Type 0 where
  pub rule : r.name ≢ []
  pub labels : AllByRecursion (λ l. l.0 ≢ []) r.labels

-- The labels, of these, that a rule's own labels leave: those that they do not set.
abbrev pub labels_left : List (List ℕ × List ℕ) → List (List ℕ × List ℕ) → List (List ℕ × List ℕ)
labels_left own labels = filter (λ l. not (list_any (λ o. same_text o.0 l.0) own)) labels

-- A rule with the labels of its group below its own: its own labels, and then those of the group
-- that it does not set itself.
-- Source: Prometheus documentation, "Recording rules", "<rule_group>": `labels` are added to the
-- result of each rule, and labels of the rule override them. Prometheus does so before it expands
-- templates.
-- Example: a rule that sets `severity`, in a group that sets `severity` and `team`, keeps its own
-- `severity` and gets `team`.
abbrev pub with_labels_below : List (List ℕ × List ℕ) → AlertingRule → AlertingRule
with_labels_below labels r = record r { labels = r.labels ++ labels_left r.labels labels }

-- The alerting rules among rules, and those of some groups, one behind the other.
abbrev pub rules_among : List (Option AlertingRule) → List AlertingRule
rules_among found = filter_map (λ r. r) found

abbrev pub rules_of_groups : List (List AlertingRule) → List AlertingRule
rules_of_groups groups = flat_map (λ rules. rules) groups

-- The field `labels` of a rule or of a group says labels: it is an object of at most
-- `MAX_RULE_LABELS` names and texts, and no name is empty. If it is absent, there are none.
-- Source: Prometheus documentation, "Recording rules", "<rule>" and "<rule_group>": `labels` has
-- label names, each with a template string. Own choice: the limit, and that any text but the empty
-- one is a name. Numbers and truth values, which Prometheus takes as texts when they come from
-- YAML, are refused.
-- Example: `{"labels": {"severity": "critical"}}` says the label `severity` with that text.
-- `{"labels": {"severity": 1}}` says none.
pub record SaysSomeLabels (d : Data) (labels : List (List ℕ × List ℕ)) : Type 0 where
  pub members : Members
  pub has_labels : field (codes "labels") d ≡ Some (object members)
  pub few : length (member_list members) ≤ MAX_RULE_LABELS
  pub each : AllZip (λ pair label. SaysNamedText pair label.0 label.1) (member_list members) labels

abbrev pub SaysLabels : Data → List (List ℕ × List ℕ) → Type 0
SaysLabels d labels =
    ((field (codes "labels") d ≡ None) × (labels ≡ [])) ⊎ SaysSomeLabels d labels

-- A value says an alerting rule of a group, without the labels of the group: its field `alert` is
-- the name, a text that is not empty, and its field `labels` says the labels. Other fields are
-- ignored.
-- Source: Prometheus documentation, "Recording rules", "<rule>": `alert` and `labels`. Own choice:
-- `expr`, `for`, `annotations` and others are optional and ignored. An empty `alert` is refused. A
-- rule with both `alert` and `record` is an alerting rule.
-- Example: `{"alert": "DiskFull", "labels": {"severity": "warning"}}` says the rule `DiskFull` that
-- sets `severity` to `warning`.
pub record SaysAlertingRule (group : List ℕ) (d : Data) (r : AlertingRule) : Type 0 where
  pub name : field (codes "alert") d ≡ Some (string r.name)
  pub some : r.name ≢ []
  pub of_group : r.group ≡ group
  pub labels : SaysLabels d r.labels

-- An item of `rules` is an object. If it has `alert`, it says an alerting rule. If not, it is no
-- alerting rule, and says none.
-- Source: Prometheus documentation, "Recording rules": a recording rule has `record` in place of
-- `alert`.
-- Example: `{"record": "job:up:sum", "expr": "sum by (job) (up)"}` says none.
abbrev pub SaysRule : List ℕ → Data → Option AlertingRule → Type 0
SaysRule group d None =
    (members : Members) × (d ≡ object members) × (field (codes "alert") d ≡ None)
SaysRule group d (Some r) = SaysAlertingRule group d r

-- A value says the alerting rules of a group: it is an object whose field `name` is a text, and
-- those are said by the items of the array `rules`, with the labels that the field `labels` says
-- below their own. If `rules` is absent, there are none. Other fields are ignored.
-- Source: Prometheus documentation, "Recording rules", "<rule_group>": `name`, `labels` and
-- `rules`. Own choice: the name may be empty, and two groups may have the same.
-- Example: `{"name": "node", "rules": []}` says no rule, and `{"rules": []}` is no group.
pub record SaysGroup (d : Data) (rules : List AlertingRule) : Type 0 where
  pub name : List ℕ
  pub named : field (codes "name") d ≡ Some (string name)
  pub labels : List (List ℕ × List ℕ)
  pub says_labels : SaysLabels d labels
  pub items : List Data
  pub is_array : HasItems (codes "rules") d items
  pub found : List (Option AlertingRule)
  pub each : AllZip (SaysRule name) items found
  pub are : rules ≡ map (with_labels_below labels) (rules_among found)

-- A value says alerting rules: it is an object whose field `groups` is an array of at most
-- `MAX_GROUPS` items. The rules are those of the groups, one behind the other, and there are at
-- most `MAX_ALERTING_RULES`. Other fields are ignored.
-- Source: Prometheus documentation, "Recording rules": `groups`. Own choice: the limits, and that
-- `groups` is required. Prometheus takes a file without it for one without groups. Here another
-- JSON file is not taken for one without rules.
-- Example: `{"groups": []}` says no rule. `{}`, `[]` and `null` say nothing.
pub record SaysRules (d : Data) (rules : List AlertingRule) : Type 0 where
  pub items : List Data
  pub is_array : option_and_then items_of (field (codes "groups") d) ≡ Some items
  pub few_groups : length items ≤ MAX_GROUPS
  pub groups : List (List AlertingRule)
  pub each : AllZip SaysGroup items groups
  pub are : rules ≡ rules_of_groups groups
  pub few : length rules ≤ MAX_ALERTING_RULES

-- The bytes of a file, at most `MAX_FILE_BYTES`, say the alerting rules that their JSON value says.
abbrev pub FileSaysRules : List ℕ → List AlertingRule → Type 0
FileSaysRules bytes rules = FileSays SaysRules bytes rules
