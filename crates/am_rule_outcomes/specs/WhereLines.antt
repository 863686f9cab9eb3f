-- The lines that say to which receivers the alerts of rules go. (This project's own.)
use Rattle.std.specs.Prelude.{ℕ, List, [], ◌∷◌, ◌++◌, map, length, Bool, true, Option, Some, None}
use Rattle.std.specs.Prelude.{◌==◌, not, is_none, ◌&&◌, if◌then◌else◌, codes}
use Rattle.std.specs.List.{filter, flat_map, list_any, count_by}
use Rattle.am_config.specs.ConfigFile.{Configuration}
use Rattle.am_report_texts.specs.Line.{Line, Piece, Report, Words, Value, Text, Texts, Word, Number}
use Rattle.am_report_texts.specs.Line.{Labels}
use Rattle.am_report_texts.specs.Plural.{plural}
use Rattle.am_report_texts.specs.ReceiverNames.{receiver_names}
use Rattle.am_report_texts.specs.declared.lines.Field.TheVariants as field_is
use Rattle.am_report_texts.specs.declared.lines.Level.TheVariants as level_is
use Rattle.am_alerting_rules.specs.RulesFile.{AlertingRule}
use Rattle.am_alerting_rules.specs.RuleAlerts.{fixed_labels}
use Rattle.am_rule_outcomes.specs.declared.receiver_outcomes.Silenced.{Silenced}
use Rattle.am_rule_outcomes.specs.declared.receiver_outcomes.Silenced.TheVariants as silenced_is
use Rattle.am_rule_outcomes.specs.RuleOutcomes.{RuleOutcome}
use Rattle.am_rule_outcomes.specs.ShownLabels.{fixed_shown}

-- The words at the end of a line: how many of the alerts are silenced.
abbrev pub silenced_pieces : Silenced → List Piece
silenced_pieces silenced_is.No = []
silenced_pieces silenced_is.Partly =
    Words (codes " ") ∷ Value field_is.State (Word (codes "partly silenced")) ∷ []
silenced_pieces silenced_is.All =
    Words (codes " ") ∷ Value field_is.State (Word (codes "silenced")) ∷ []

-- The group of a rule, which begins each of its lines, and a label set.
abbrev pub rule_pieces : AlertingRule → List (List ℕ × List ℕ) → List Piece
rule_pieces r labels = Value field_is.Group (Text r.group) ∷ Words (codes " ")
    ∷ Value field_is.Labels (Labels labels) ∷ []

-- The line of an outcome of a rule: the group of the rule, the labels of an alert, the names of the
-- receivers to which it goes, and whether such alerts are silenced.
-- Source: own choice.
-- Example: `"db" {alertname="PostgresDown",severity="critical"} -> "log","db-pager" silenced`.
abbrev pub where_line : Configuration → AlertingRule → RuleOutcome → Line
where_line c r o = record {
  level = level_is.Plain;
  pieces = rule_pieces r o.first ++ (Words (codes " -> ")
      ∷ Value field_is.Receivers (Texts (receiver_names c o.receivers))
      ∷ silenced_pieces o.silenced);
}

-- The line of a rule that has no alert that counts.
-- Source: own choice.
-- Example: `"db" {alertname="PostgresDown",severity="critical"} no alert`.
abbrev pub no_alert_line : AlertingRule → Line
no_alert_line r = record {
  level = level_is.Plain;
  pieces = rule_pieces r (fixed_shown (fixed_labels r))
      ++ (Words (codes " ") ∷ Value field_is.Kind (Word (codes "no alert")) ∷ []);
}

-- An outcome is shown if no receiver is named, or if it has one of the receivers that are named.
abbrev pub is_asked : Option (List ℕ) → RuleOutcome → Bool
is_asked None o = true
is_asked (Some asked) o = list_any (λ r. list_any (λ other. other == r) asked) o.receivers

-- The lines of a rule: one for each of its outcomes that is shown. If the rule has no outcome at
-- all, and no receiver is named, one line says so.
abbrev pub rule_lines :
    Configuration → Option (List ℕ) → AlertingRule × List RuleOutcome → List Line
rule_lines c asked rule =
    if is_none asked && length rule.1 == 0 then no_alert_line rule.0 ∷ []
    else map (where_line c rule.0) (filter (is_asked asked) rule.1)

-- The last line: how many alerting rules there are and, if receivers are named, how many of them
-- have a line.
-- Source: own choice.
-- Example: `# 214 rules`; and with receivers `# 12 of 214 rules`.
abbrev pub has_lines : List Line → Bool
has_lines lines = not (length lines == 0)

abbrev pub shown_pieces : Option (List ℕ) → ℕ → List Piece
shown_pieces None shown = []
shown_pieces (Some asked) shown =
    Value field_is.Shown (Number shown) ∷ Words (codes " of ") ∷ []

abbrev pub last_pieces : Option (List ℕ) → ℕ → ℕ → List Piece
last_pieces asked shown count =
    Words (codes "# ") ∷ (shown_pieces asked shown
    ++ (Value field_is.Rules (Number count) ∷ Words (codes " rule") ∷ Words (plural count) ∷ []))

-- The report: the lines of each rule, in the order of the file, and the last line.
abbrev pub where_report :
    Configuration → Option (List ℕ) → List (AlertingRule × List RuleOutcome) → Report
where_report c asked rules = record {
  lines = flat_map (rule_lines c asked) rules;
  last = last_pieces asked (count_by (λ rule. has_lines (rule_lines c asked rule)) rules)
      (length rules);
}
