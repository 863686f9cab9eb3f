-- Narrowings and outcomes of rules, as they are kept in memory.
use Rattle.std.specs.Prelude.{◌≡◌, ℕ, List, [], map, Option, Some, None, option_map}
use Rattle.std.specs.Prelude.{option_and_then, slice_get, string_bytes}
use Rattle.std.specs.List.{AllByRecursion, AllZip}
use Rattle.std.specs.Global.{Vec}
use Rattle.am_universe.specs.Universe.{Label, sizes}
use Rattle.am_universe.specs.Choice.{IsWhole}
use Rattle.am_labels.specs.Matcher.{Matcher}
use Rattle.am_labels.specs.Space.{Space}
use Rattle.am_classes.specs.LabelTests.{IsTestsOf}
use Rattle.am_classes.specs.Truths.{AreTested, texts_of}
use Rattle.am_complete.specs.AskedLabel.{AskedLabel}
use Rattle.am_complete.specs.Complete.{texts_of_label}
use Rattle.am_outcomes.specs.Configurations.{Configurations}
use Rattle.am_alerting_rules.specs.RulesFile.{AlertingRule}
use Rattle.am_alerting_rules.specs.RuleAlerts.{fixed_labels}
use Rattle.am_rule_outcomes.specs.declared.label_texts.LabelTexts.{LabelTexts}
use Rattle.am_rule_outcomes.specs.declared.receiver_outcomes.ReceiverOutcome.{ReceiverOutcome}
use Rattle.am_rule_outcomes.specs.declared.rule_outcomes.NarrowedOutcomes.{NarrowedOutcomes}
use Rattle.am_rule_outcomes.specs.declared.rule_outcomes.RuleOutcomes.{RuleOutcomes}
use Rattle.am_rule_outcomes.specs.declared.where_lines.NarrowedReceivers.{NarrowedReceivers}
use Rattle.am_rule_outcomes.specs.Narrowing.{alike_position, matchers_on}
use Rattle.am_rule_outcomes.specs.declared.rule_outcomes.Shared.{Shared}
use Rattle.am_rule_outcomes.specs.Narrowed.{Narrowed, left_outcomes}
use Rattle.am_rule_outcomes.specs.ReceiverOutcomes as spec
use Rattle.am_rule_outcomes.specs.ReceiverOutcomes.{with_shown}
use Rattle.am_rule_outcomes.specs.RuleOutcomes.{RuleOutcome}
use Rattle.am_rule_outcomes.specs.ShownLabels.{shown_labels}

-- A narrowing, if there is one.
abbrev pub narrowing_view : Option (Vec (Option ℕ)) → Option (List (Option ℕ))
narrowing_view found = option_map (λ kept. kept.items) found

-- The texts of a label, tested by the matchers on it. For each text that was looked for, the
-- position that is kept is that of the first text that is alike to it.
pub record IsLabelTexts (ms : List Matcher) (label : Label) (texts : LabelTexts) : Type 0 where
  pub name : texts.name.now ≡ label.name
  pub tests : IsTestsOf ms texts.tests
  pub are : texts_of texts.texts.items ≡ texts_of_label (Some label)
  pub tested : AreTested ms texts.texts.items
  pub known : AllByRecursion (λ e. e.1 ≡ alike_position ms (string_bytes e.0) label)
      texts.known.entries

-- The same for each label of a universe.
abbrev pub AreLabelTexts : List AskedLabel → List Label → List LabelTexts → Type 0
AreLabelTexts asked u labels =
    AllZip (λ label texts. IsLabelTexts (matchers_on asked label.name) label texts) u labels

-- The receivers of an outcome, which borrow from it.
abbrev pub receiver_outcome_view : ReceiverOutcome → spec.ReceiverOutcome (List ℕ)
receiver_outcome_view o = record {
  receivers = o.receivers.now;
  first = o.first.now;
  silenced = o.silenced;
}

-- The same of a narrowed universe, with its labels; and the first choices are whole ones of it.
abbrev pub narrowed_receivers_view :
    NarrowedReceivers → List Label × List (spec.ReceiverOutcome (List ℕ))
narrowed_receivers_view n = (n.universe.now, map receiver_outcome_view n.outcomes.items)

abbrev pub HaveWholeFirsts : List Label × List (spec.ReceiverOutcome (List ℕ)) → Type 0
HaveWholeFirsts n = AllByRecursion (λ o. IsWhole (sizes n.0) o.first) n.1

-- Outcomes of choices of a universe; and for each rule the outcomes of its alerts, if it has any.
abbrev pub narrowed_with : List Label → List (List (List ℕ) × List ℕ) → Narrowed
narrowed_with u outcomes = record { labels = u; outcomes = outcomes }

abbrev pub narrowed_view : NarrowedOutcomes → Narrowed
narrowed_view n = narrowed_with n.universe.now n.outcomes.now

abbrev pub narrowed_each : List Label → List (List (List (List ℕ) × List ℕ)) → List Narrowed
narrowed_each u each = map (narrowed_with u) each

abbrev pub narrowed_of : List Narrowed → Option ℕ → Option Narrowed
narrowed_of each position = option_and_then (slice_get each) position

abbrev pub narrowed_in : RuleOutcomes → List Narrowed
narrowed_in found = narrowed_each found.universe found.each.items

abbrev pub rule_outcomes_view : RuleOutcomes → List (Option Narrowed)
rule_outcomes_view found = map (narrowed_of (narrowed_in found)) found.of_rules.items

-- The outcomes of narrowings, each at the position of its narrowing.
abbrev pub AreShared : Space → Configurations → Shared → Type 0
AreShared s k shared =
    shared.each.items ≡ map (λ kept. left_outcomes s k kept.now) shared.seen.keys

-- The outcomes of a rule as its lines show them, with labels in place of choices.
abbrev pub outcomes_shown : AlertingRule
    → Option (List Label × List (spec.ReceiverOutcome (List ℕ))) → List RuleOutcome
outcomes_shown r None = []
outcomes_shown r (Some n) = map (with_shown (shown_labels (fixed_labels r) n.0)) n.1
