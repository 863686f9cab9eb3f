-- The form of a rules file, and its first fault. (Prometheus documentation, "Alerting rules" and
-- "Recording rules"; the order and the limits are this project's own.)
use Rattle.std.specs.Prelude.{◌≡◌, ℕ, List, [], ◌∷◌, ◌++◌, length, map, Option, Some, None, codes}
use Rattle.serde_json.specs.Data.{Data}
use Rattle.am_json.specs.Json.{field, member_list}
use Rattle.am_json.specs.Objections.{first_fault}
use Rattle.am_json.specs.OptionalItems.{read_optional_items}
use Rattle.am_json.specs.Pointer.{Refusal, to_field}
use Rattle.am_json.specs.Reading.{Form, Reading, ◌>>=◌, accept, reading_within, check_count}
use Rattle.am_json.specs.Reading.{refuse_for, as_text, as_object, required_text, required_items}
use Rattle.am_json.specs.Reading.{read_each, read_items, read_json}
use Rattle.am_list_files.specs.MatcherFaults.{label_name_fault}
use Rattle.am_list_files.specs.NamedText.{named_text_form}
use Rattle.am_alerting_rules.specs.declared.limits.TheConstants.{MAX_GROUPS, MAX_RULE_LABELS}
use Rattle.am_alerting_rules.specs.declared.limits.TheConstants.{MAX_ALERTING_RULES}
use Rattle.am_alerting_rules.specs.RulesFile.{AlertingRule, with_labels_below, rules_among}
use Rattle.am_alerting_rules.specs.RulesFile.{rules_of_groups}

-- The name of an alerting rule, which is not empty.
unfoldable pub rule_name_form : Form Data (List ℕ)
rule_name_form d = do
  name ← as_text d
  _ ← refuse_for (label_name_fault name)
  accept name

-- The labels before a label, with the label added.
unfoldable pub next_label_form : List (List ℕ × List ℕ) → List ℕ × Data
    → Reading (List (List ℕ × List ℕ))
next_label_form before pair = do
  text ← reading_within (to_field pair.0) (named_text_form pair.0 pair.1)
  accept (before ++ (pair.0, text) ∷ [])

-- The labels of an object.
unfoldable pub labels_form : Form Data (List (List ℕ × List ℕ))
labels_form d = do
  members ← as_object d
  _ ← check_count MAX_RULE_LABELS (length (member_list members))
  read_each next_label_form [] (member_list members)

-- The labels of a rule or of a group, if it has the field `labels`.
abbrev pub optional_labels_form : Option Data → Reading (List (List ℕ × List ℕ))
optional_labels_form None = accept []
optional_labels_form (Some d) = reading_within (to_field (codes "labels")) (labels_form d)

-- An alerting rule of a group, whose field `alert` has this value. Its other fields are not read.
unfoldable pub alerting_rule_form : List ℕ → Data → Data → Reading AlertingRule
alerting_rule_form group alert d = do
  name ← reading_within (to_field (codes "alert")) (rule_name_form alert)
  labels ← optional_labels_form (field (codes "labels") d)
  accept (record { group = group; name = name; labels = labels })

-- The alerting rule that an item is, if it has the field `alert`.
abbrev pub rule_with : List ℕ → Data → Option Data → Reading (Option AlertingRule)
rule_with group d None = accept None
rule_with group d (Some alert) = do
  rule ← alerting_rule_form group alert d
  accept (Some rule)

-- A rule of a group.
unfoldable pub rule_form : List ℕ → Data → Reading (Option AlertingRule)
rule_form group d = do
  _ ← as_object d
  rule_with group d (field (codes "alert") d)

-- The alerting rules of a group, with the labels of the group below their own. Its other fields are
-- not read.
unfoldable pub group_form : Form Data (List AlertingRule)
group_form d = do
  _ ← as_object d
  name ← required_text (codes "name") d
  labels ← optional_labels_form (field (codes "labels") d)
  items ← read_optional_items (codes "rules") d
  found ← reading_within (to_field (codes "rules"))
      (read_items (λ before item. rule_form name item) [] items)
  accept (map (with_labels_below labels) (rules_among found))

-- The alerting rules of groups. Too many are refused at the array of groups.
unfoldable pub groups_form : Form (List Data) (List AlertingRule)
groups_form items = do
  _ ← check_count MAX_GROUPS (length items)
  groups ← read_items (λ before item. group_form item) [] items
  _ ← check_count MAX_ALERTING_RULES (length (rules_of_groups groups))
  accept (rules_of_groups groups)

-- The alerting rules of a value. Its other fields are not read.
unfoldable pub rules_form : Form Data (List AlertingRule)
rules_form d = do
  _ ← as_object d
  items ← required_items (codes "groups") d
  reading_within (to_field (codes "groups")) (groups_form items)

-- The alerting rules of the bytes of a file.
unfoldable pub rules_file_form : Form (List ℕ) (List AlertingRule)
rules_file_form bytes = do
  d ← read_json bytes
  rules_form d

-- ---- The first fault.

-- The refusal is the first fault of a JSON value, or of the bytes of a file.
abbrev pub IsFirstFaultOfRules : Data → Refusal → Type 0
IsFirstFaultOfRules d r = first_fault (rules_form d).objections ≡ Some r

abbrev pub IsFirstFaultOfRulesFile : List ℕ → Refusal → Type 0
IsFirstFaultOfRulesFile bytes r = first_fault (rules_file_form bytes).objections ≡ Some r
