-- The alerts of an alerting rule. (Prometheus documentation, "Alerting rules".)
use Rattle.std.specs.Prelude.{◌≡◌, ℕ, List, [], ◌∷◌, ◌++◌, fold, Bool, false, ◌||◌, codes}
use Rattle.std.specs.Prelude.{if◌then◌else◌, nat_eq}
use Rattle.std.specs.List.{AllByRecursion, list_any, starts_with}
use Rattle.am_universe.specs.LabelSet.{LabelMap, value_of}
use Rattle.am_universe.specs.Text.{same_text}
use Rattle.am_alerting_rules.specs.RulesFile.{AlertingRule}

-- The label that has the name of the rule.
abbrev pub alert_name : List ℕ
alert_name = codes "alertname"

-- A text is a template: `{{` stands somewhere in it.
-- Source: Prometheus documentation, "Alerting rules", "Templating": label values can be templated,
-- as console templates. These are templates of Go, in which `{{` begins each action, and a text
-- without one stands for itself.
-- Example: `{{ $labels.team }}` and `db-{{ $value }}` are templates. `{team}` is none.
abbrev pub is_template : List ℕ → Bool
is_template [] = false
is_template (c ∷ cs) = starts_with nat_eq (c ∷ cs) (codes "{{") || is_template cs

-- Labels with one more, unless its text is a template or the label is there already.
abbrev pub with_fixed : List (List ℕ × List ℕ) → List ℕ × List ℕ → List (List ℕ × List ℕ)
with_fixed before label =
    if is_template label.1 || list_any (λ l. same_text l.0 label.0) before then before
    else before ++ label ∷ []

-- The labels that each alert of a rule has with the same text: `alertname`, with the name of the
-- rule, and each other label that the rule sets to a text that is no template.
-- Source: Prometheus documentation, "Alerting rules": `labels` sets additional labels of the
-- alert, and overwrites labels that are there already. Prometheus sets `alertname` last.
-- Example: if the rule `DiskFull` sets `severity` to `warning`, `team` to `{{ $labels.team }}` and
-- `alertname` to `X`, they are `alertname`, which is `DiskFull`, and `severity`.
abbrev pub fixed_labels : AlertingRule → List (List ℕ × List ℕ)
fixed_labels r = fold with_fixed ((alert_name, r.name) ∷ []) r.labels

-- An alert of a rule: each of these labels has its text. The empty text means that the label is
-- missing. Any other label may have any text or be missing, since the series of the rule's
-- expression bring labels along, and a template may become any text.
-- Source: Prometheus documentation, "Alerting rules". A label with the empty value is a missing
-- label (Prometheus data model). Own choice: external labels and relabelling are not known. With
-- them, a label that the rule takes away may come back, and the texts may change.
-- Example: `{alertname="DiskFull",severity="warning",instance="a"}` is an alert of the rule
-- `DiskFull` that sets `severity` to `warning`, and `{alertname="DiskFull"}` is none.
abbrev pub IsAlertOfRule : AlertingRule → LabelMap → Type 0
IsAlertOfRule r s = AllByRecursion (λ l. value_of s l.0 ≡ l.1) (fixed_labels r)
