-- What `compare` owes. (This project's own.)
use Rattle.std.specs.Prelude.{◌≡◌, ◌⊎◌, ◌↔◌, ℕ, List, ◌++◌, map, Option, Some, None}
use Rattle.std.specs.Prelude.{Contains}
use Rattle.std.specs.List.{AllByRecursion, IsDistinct, flat_map}
use Rattle.am_universe.specs.declared.place.Place.{Place}
use Rattle.am_universe.specs.Universe.{Label}
use Rattle.am_universe.specs.LabelSet.{LabelMap, label_set_of}
use Rattle.am_universe.specs.Text.{same_text}
use Rattle.am_labels.specs.Space.{Space}
use Rattle.am_json.specs.Pointer.{Refusal}
use Rattle.am_list_files.specs.AlertsFile.{labels_of}
use Rattle.am_alerting_rules.specs.RulesFile.{AlertingRule}
use Rattle.am_config.specs.ConfigFile.{Configuration}
use Rattle.am_config.specs.WholeConfig.{WholeConfiguration}
use Rattle.am_files.specs.Faults.{later_stages}
use Rattle.am_files.specs.Promise.{Promise}
use Rattle.am_eval.specs.Routing.{receivers}
use Rattle.am_classes.specs.declared.alphabet.Alphabet.{Alphabet}
use Rattle.am_every_alert.specs.EveryAlert.{IsAlertOf}
use Rattle.am_asked.specs.OriginPointer.{matcher_places}
use Rattle.am_report_texts.specs.ReceiverNames.{receiver_names}
use Rattle.am_report_texts.specs.declared.writing.Form.{Form}
use Rattle.am_report_texts.specs.Written.{IsWritten}
use Rattle.am_differences.specs.PartLines.{SayTheSame}
use Rattle.am_outcomes.specs.Configurations.{Configurations, Pair}
use Rattle.am_outcomes.specs.Handling.{IsHandledAlike}
use Rattle.am_outcomes.specs.Outcomes.{AreOutcomesOf, outcome_of, same_outcome}
use Rattle.am_outcomes.specs.Changes.{changes_of, losses, gains, shown_change}
use Rattle.am_outcomes.specs.ChangeLines.{changes_report, count_changes}
use Rattle.am_rule_outcomes.specs.Narrowed.{Narrowed}
use Rattle.am_rule_outcomes.specs.RuleChanges.{changes_of_rules}
use Rattle.am_rule_outcomes.specs.RuleOutcomes.{IsRuleAlert, with_rule_outcomes}
use Rattle.am_reports.specs.CompareInputs.{CompareInputs, AcceptsCompareInputs}
use Rattle.am_reports.specs.CompareInputs.{compare_input_stages}
use Rattle.am_reports.specs.LaterStages.{IsOutcomesRefusal}
use Rattle.am_reports.specs.Made.{AreDeclaredWhole}
use Rattle.am_reports.specs.AllOutcomes.{AreAllOutcomes}
use Rattle.am_reports.specs.RulesOutcomes.{AreFoundFor, IsRulesRefusal}

-- Changes are those of some alerts, as `Are` says. What is shown for each change is such an alert,
-- with the outcome of the change, that is not handled alike under both configurations. Each such
-- alert is handled alike under both, or has the outcome of one of the changes, and never both. No
-- two changes are the same.
-- Source: own choice.
-- Example: if alerts of the team `web` go to `db-mail` under the old configuration and to
-- `web-pager` under the new one, and no other alert is handled otherwise, there is one change.
module _ {C : Type 0} (Are : LabelMap → Type 0) (set_of : C → LabelMap)
    (old new : Configuration) where
  abbrev pub IsChange : List (List ℕ) × C → Type 0
  IsChange change =
      Are (set_of change.1) × (outcome_of (Pair old new) (set_of change.1) ≡ change.0)
      × (IsHandledAlike old new (set_of change.1) → ⊥)

  abbrev pub HasChange : List (List (List ℕ) × C) → LabelMap → Type 0
  HasChange changes alert =
      Contains (map (λ change. change.0) changes) (outcome_of (Pair old new) alert)

  pub record AreChanges (changes : List (List (List ℕ) × C)) : Type 0 where
    pub each : AllByRecursion IsChange changes
    pub all : (alert : LabelMap) → Are alert
        → IsHandledAlike old new alert ⊎ HasChange changes alert
    pub alike : (alert : LabelMap) → Are alert → IsHandledAlike old new alert
        → HasChange changes alert → ⊥
    pub once : IsDistinct same_outcome (map (λ change. change.0) changes)

-- An alert goes to a receiver of this name under one configuration, and to none of this name under
-- the other.
-- Source: Alertmanager configuration reference 0.25, "<route>": `receiver`.
-- Example: if a pager gets all critical alerts under the old configuration, and only those of the
-- database team under the new one, critical alerts of the web team go to it only under the old one.
abbrev pub GoesTo : Configuration → LabelMap → List ℕ → Type 0
GoesTo c alert name = Contains (receiver_names c (receivers alert c)) name

abbrev pub GoesOnlyUnder : Configuration → Configuration → LabelMap → List ℕ → Type 0
GoesOnlyUnder c other alert name = GoesTo c alert name × (GoesTo other alert name → ⊥)

-- Receivers, each with an alert that is shown, are exactly those of a configuration to which some
-- of these alerts goes under this configuration only. What is shown is such an alert.
pub record HaveAlertsOnlyUnder {C : Type 0} (Are : LabelMap → Type 0) (set_of : C → LabelMap)
    (c other : Configuration) (found : List (List ℕ × C)) : Type 0 where
  pub each : AllByRecursion (λ f. Are (set_of f.1) × GoesOnlyUnder c other (set_of f.1) f.0) found
  pub all : (name : List ℕ) → Contains c.receivers name
      → (alert : LabelMap) → Are alert → GoesOnlyUnder c other alert name
      → Contains (map (λ f. f.0) found) name
  pub once : IsDistinct same_text (map (λ f. f.0) found)

-- All of these alerts are handled alike under both configurations, and all parts of the files that
-- are no routes say the same.
abbrev pub NothingChanges : (LabelMap → Type 0) → WholeConfiguration → WholeConfiguration → Type 0
NothingChanges Are old new =
    ((alert : LabelMap) → Are alert → IsHandledAlike old.config new.config alert)
    × SayTheSame old new

-- The text is a comparison of two configurations, for the alerts of a space over an alphabet. It
-- has a line for each receiver that loses alerts, for each that gains some, for each outcome that
-- is a change, and for each part of the files that differs, and then the counts. What is shown for
-- each change is true. There is no change exactly if every alert that counts is handled alike and
-- all other parts say the same.
-- Source: own choice.
-- Example: `"db-mail" -> "web-pager" {team="web"}` says that `{team="web"}` goes to `db-mail` under
-- the old configuration, and to `web-pager` under the new one.
pub record IsComparison (a : Alphabet) (s : Space) (old new : WholeConfiguration)
    (form : Form) (count : ℕ) (report : List ℕ) : Type 0 where
  pub labels : List Label
  pub outcomes : List (List (List ℕ) × List ℕ)
  pub of_all : AreAllOutcomes a s (Pair old.config new.config) labels outcomes
  pub changes : List (List (List ℕ) × List ℕ)
  pub changes_are : changes ≡ changes_of old.config new.config outcomes
  pub are : AreChanges (IsAlertOf a s) (label_set_of labels) old.config new.config changes
  pub lose : HaveAlertsOnlyUnder (IsAlertOf a s) (label_set_of labels) old.config new.config
      (losses old.config new.config changes)
  pub gain : HaveAlertsOnlyUnder (IsAlertOf a s) (label_set_of labels) new.config old.config
      (gains old.config new.config changes)
  pub none : (count ≡ 0) ↔ NothingChanges (IsAlertOf a s) old new
  pub counted : count ≡ count_changes old new (map (shown_change labels) changes)
  pub text : IsWritten form (changes_report old new (map (shown_change labels) changes)) report

-- An alert that counts is one of some rule.
abbrev pub IsAlertOfOne : Alphabet → Space → List AlertingRule → LabelMap → Type 0
IsAlertOfOne a s rules alert =
    (r : AlertingRule) × Contains rules r × IsRuleAlert a s r alert

-- The text is such a comparison for the alerts of alerting rules: the lines of changes come rule by
-- rule, and those of a rule are about the outcomes of its alerts.
-- Source: own choice.
-- Example: `"db" {alertname="PostgresDown",team="db"}: "db-pager" -> "web-pager"` says that some
-- alert of a rule of the group `db`, such as the one with these labels, moves.
pub record IsRulesComparison (a : Alphabet) (s : Space) (old new : WholeConfiguration)
    (rules : List AlertingRule) (form : Form) (count : ℕ) (report : List ℕ) : Type 0 where
  pub found : List (Option Narrowed)
  pub over : AreFoundFor a s.impossible (Pair old.config new.config) rules found
  pub each_rule : map (λ rule. rule.0) (with_rule_outcomes rules found) ≡ rules
  pub outcomes : AllByRecursion (λ rule. AreOutcomesOf (IsRuleAlert a s rule.0)
      (Pair old.config new.config) labels_of rule.1) (with_rule_outcomes rules found)
  pub are : AllByRecursion (λ rule. AreChanges (IsRuleAlert a s rule.0) labels_of
      old.config new.config (changes_of old.config new.config rule.1))
      (with_rule_outcomes rules found)
  pub changes : List (List (List ℕ) × List (List ℕ × List ℕ))
  pub changes_are : changes ≡ flat_map (λ rule. changes_of old.config new.config rule.1)
      (with_rule_outcomes rules found)
  pub lose : HaveAlertsOnlyUnder (IsAlertOfOne a s rules) labels_of old.config new.config
      (losses old.config new.config changes)
  pub gain : HaveAlertsOnlyUnder (IsAlertOfOne a s rules) labels_of new.config old.config
      (gains old.config new.config changes)
  pub none : (count ≡ 0) ↔ NothingChanges (IsAlertOfOne a s rules) old new
  pub counted : count ≡ count_changes old new
      (changes_of_rules old.config new.config (with_rule_outcomes rules found))
  pub text : IsWritten form (changes_report old new
      (changes_of_rules old.config new.config (with_rule_outcomes rules found))) report

-- The same with or without alerting rules.
abbrev pub Compares : Alphabet → Space → WholeConfiguration → WholeConfiguration
    → Option (List AlertingRule) → Form → ℕ → List ℕ → Type 0
Compares a s old new None form count report = IsComparison a s old new form count report
Compares a s old new (Some rules) form count report =
    IsRulesComparison a s old new rules form count report

-- The inputs are accepted, no label that the universe file declares lacks a value, and the text is
-- a comparison of the configurations for every possible alert, or for every alert of the alerting
-- rules; with `--ascii`, for every such alert whose values are printable ASCII.
-- Source: own choice.
-- Example: if both files declare the receivers `a` and `b` and have only the top-level route, with
-- the receiver `a` in the old file and `b` in the new one, the report is the lines
-- `"a" loses alerts such as {}`, `"b" gains alerts such as {}`, `"a" -> "b" {}` and
-- `# 1 change, 1 receiver loses alerts, 1 gains`.
pub record ComparesFiles (inputs : CompareInputs) (changes : ℕ) (report : List ℕ)
    : Type 0 where
  pub space : Space
  pub old : WholeConfiguration
  pub new : WholeConfiguration
  pub rules : Option (List AlertingRule)
  pub accepts : AcceptsCompareInputs inputs space old new rules
  pub whole : AreDeclaredWhole inputs.alphabet space (Pair old.config new.config) space.labels
  pub compares : Compares inputs.alphabet space old new rules inputs.form changes report

-- The inputs are accepted, and what they say is refused at this place.
abbrev pub IsComparisonRefusal : Alphabet → Space → Configurations → Option (List AlertingRule)
    → Place → Refusal → Type 0
IsComparisonRefusal a s k None place r = IsOutcomesRefusal a s k place r
IsComparisonRefusal a s k (Some rules) place r = IsRulesRefusal a s k rules place r

abbrev pub RefusesComparison : CompareInputs → Place → Refusal → Type 0
RefusesComparison inputs place r =
    (s : Space) × (old : WholeConfiguration) × (new : WholeConfiguration)
    × (rules : Option (List AlertingRule)) × AcceptsCompareInputs inputs s old new rules
    × IsComparisonRefusal inputs.alphabet s (Pair old.config new.config) rules place r

-- What `compare` owes. It returns the number of changes.
-- Source: own choice.
-- Example: if neither configuration is JSON, the first fault is the `not-json` of the old one.
abbrev pub compare_promise : CompareInputs → Promise ℕ
compare_promise inputs = record {
  stages = compare_input_stages inputs ++ later_stages matcher_places (RefusesComparison inputs);
  May = ComparesFiles inputs;
}
