-- The outcomes of the alerts of a rule; and to which receivers these go, and how many of them are
-- silenced. (This project's own.)
use Rattle.std.specs.Prelude.{◌≡◌, ℕ, List, [], ◌∷◌, map, Bool, true, false, Contains, Option, Some}
use Rattle.std.specs.Prelude.{None}
use Rattle.std.specs.List.{AllByRecursion, IsDistinct}
use Rattle.am_universe.specs.LabelSet.{LabelMap}
use Rattle.am_universe.specs.Text.{same_text}
use Rattle.am_labels.specs.Space.{Space}
use Rattle.am_list_files.specs.AlertsFile.{labels_of}
use Rattle.am_config.specs.ConfigFile.{Configuration}
use Rattle.am_eval.specs.Routing.{receivers}
use Rattle.am_classes.specs.declared.alphabet.Alphabet.{Alphabet}
use Rattle.am_every_alert.specs.EveryAlert.{IsAlertOf}
use Rattle.am_alerting_rules.specs.RulesFile.{AlertingRule}
use Rattle.am_alerting_rules.specs.RuleAlerts.{IsAlertOfRule, fixed_labels}
use Rattle.am_rule_outcomes.specs.declared.receiver_outcomes.Silenced.{Silenced}
use Rattle.am_rule_outcomes.specs.declared.receiver_outcomes.Silenced.TheVariants as silenced_is
use Rattle.am_rule_outcomes.specs.Narrowed.{Narrowed}
use Rattle.am_rule_outcomes.specs.ReceiverOutcomes.{ReceiverOutcome, receiver_outcomes}
use Rattle.am_rule_outcomes.specs.ShownLabels.{shown_labels}

-- An alert of a rule that counts: it is over an alphabet, and no impossible list matches it.
abbrev pub IsRuleAlert : Alphabet → Space → AlertingRule → LabelMap → Type 0
IsRuleAlert a s r alert = IsAlertOf a s alert × IsAlertOfRule r alert

-- The outcomes of a rule: those of its narrowed universe, each with the labels that are shown for
-- its first choice. A rule without alerts that count has none.
-- Source: own choice.
-- Example: if the outcome 1 of the universe has a first choice without labels, the outcome of a
-- rule `DiskFull` that sets no label is 1 with `{alertname="DiskFull"}`.
abbrev pub rule_outcomes_shown :
    AlertingRule → Option Narrowed → List (List (List ℕ) × List (List ℕ × List ℕ))
rule_outcomes_shown r None = []
rule_outcomes_shown r (Some n) =
    map (λ o. (o.0, shown_labels (fixed_labels r) n.labels o.1)) n.outcomes

-- Each rule with its outcomes.
abbrev pub with_rule_outcomes : List AlertingRule → List (Option Narrowed)
    → List (AlertingRule × List (List (List ℕ) × List (List ℕ × List ℕ)))
with_rule_outcomes [] found = []
with_rule_outcomes (r ∷ rules) [] = []
with_rule_outcomes (r ∷ rules) (n ∷ found) =
    (r, rule_outcomes_shown r n) ∷ with_rule_outcomes rules found

-- A list of receivers, with the labels of an alert that goes to exactly these. Each rule with those
-- of its outcomes.
abbrev pub RuleOutcome : Type 0
RuleOutcome = ReceiverOutcome (List (List ℕ × List ℕ))

abbrev pub with_outcomes :
    List AlertingRule → List (Option Narrowed) → List (AlertingRule × List RuleOutcome)
with_outcomes rules found =
    map (λ rule. (rule.0, receiver_outcomes rule.1)) (with_rule_outcomes rules found)

-- Some of these alerts are silenced, and some are not.
pub record ArePartlySilenced (is_silenced : LabelMap → Bool) (Are : LabelMap → Type 0)
    : Type 0 where
  pub one : LabelMap
  pub one_is : Are one
  pub one_silenced : is_silenced one ≡ true
  pub other : LabelMap
  pub other_is : Are other
  pub other_fires : is_silenced other ≡ false

-- None of these alerts is silenced, some are and some are not, or all are.
-- Source: own choice.
-- Example: if a silence hides `{env="dev"}`, and no route asks about `env`, the alerts of a rule
-- that does not set `env` are silenced in part.
abbrev pub AreSilenced : (LabelMap → Bool) → (LabelMap → Type 0) → Silenced → Type 0
AreSilenced is_silenced Are silenced_is.No =
    (alert : LabelMap) → Are alert → is_silenced alert ≡ false
AreSilenced is_silenced Are silenced_is.Partly = ArePartlySilenced is_silenced Are
AreSilenced is_silenced Are silenced_is.All =
    (alert : LabelMap) → Are alert → is_silenced alert ≡ true

-- Outcomes are those of the alerts that count, as `Are` says. The labels of each outcome are those
-- of such an alert, and it goes to exactly these receivers; each such alert goes to the receivers
-- of one of the outcomes; no two outcomes have the same receivers; and each says how many of the
-- alerts that go to exactly its receivers are silenced.
-- Source: own choice.
-- Example: if alerts of the team `db` go to the receiver at position 1 and all others to the one at
-- 0, a rule that does not set `team` has two outcomes, and one that sets it to `db` has one.
pub record AreRuleOutcomes (Are : LabelMap → Type 0) (c : Configuration)
    (is_silenced : LabelMap → Bool) (outcomes : List RuleOutcome) : Type 0 where
  pub each : AllByRecursion (λ o. Are (labels_of o.first)
      × (receivers (labels_of o.first) c ≡ o.receivers)) outcomes
  pub all : (alert : LabelMap) → Are alert
      → Contains (map (λ o. o.receivers) outcomes) (receivers alert c)
  pub once : IsDistinct same_text (map (λ o. o.receivers) outcomes)
  pub silenced : AllByRecursion (λ o. AreSilenced is_silenced
      (λ alert. Are alert × (receivers alert c ≡ o.receivers)) o.silenced) outcomes
