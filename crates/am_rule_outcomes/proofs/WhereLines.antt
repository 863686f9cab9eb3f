-- The lines of rules, and the receivers of narrowed universes.
use Rattle.std.proofs.Common.{◌≡◌, ℕ, ◌<◌, ◌≤◌, true, false, List, [], ◌∷◌}
use Rattle.std.proofs.Common.{length, map, Option, Some, None, option_map, refl, ap, sym, ◌∙◌}
use Rattle.std.proofs.Common.{subst, arith}
use Rattle.std.specs.Prelude.{slice_get, option_and_then, IfSome}
use Rattle.std.specs.List.{AllByRecursion}
use Rattle.std.proofs.lemmas.Grind.{common_steps}
use Rattle.std.proofs.lemmas.Option.{slice_get-map}
use Rattle.am_universe.specs.Universe.{Label, sizes}
use Rattle.am_universe.specs.Choice.{IsWhole}
use Rattle.am_universe.specs.Text.{same_text}
use Rattle.am_universe.proofs.ListLemmas.{IsIn-unmap, AllByRecursion-each, AllByRecursion-at}
use Rattle.am_universe.proofs.LabelPairLemmas.{at_place}
use Rattle.am_report_texts.specs.Line.{Line}
use Rattle.am_outcomes.proofs.FirstsLemmas.{first_is_one}
use Rattle.am_alerting_rules.specs.RulesFile.{AlertingRule}
use Rattle.am_alerting_rules.specs.RuleAlerts.{fixed_labels}
use Rattle.am_rule_outcomes.specs.declared.where_lines.NarrowedReceivers.{NarrowedReceivers}
use Rattle.am_rule_outcomes.specs.Narrowed.{Narrowed, HaveWholeChoices}
use Rattle.am_rule_outcomes.specs.NarrowingView.{HaveWholeFirsts, narrowed_of, narrowed_receivers_view}
use Rattle.am_rule_outcomes.specs.NarrowingView.{outcomes_shown}
use Rattle.am_rule_outcomes.specs.ReceiverOutcomes.{ReceiverOutcome, receiver_outcome, receiver_outcomes}
use Rattle.am_rule_outcomes.specs.ReceiverOutcomes.{receivers_of}
use Rattle.am_rule_outcomes.specs.RuleOutcomes.{rule_outcomes_shown}
use Rattle.am_rule_outcomes.specs.ShownLabels.{shown_labels}
use Rattle.am_rule_outcomes.specs.WhereLines.{has_lines}
use Rattle.am_rule_outcomes.proofs.ReceiverOutcomes.{receivers_shown}

-- ---- Whether a rule has lines.

pub some_there : (lines : List Line) → 0 < length lines → has_lines lines ≡ true
some_there lines some = grind (arith, common_steps)

pub none_there : (lines : List Line) → length lines ≤ 0 → has_lines lines ≡ false
none_there lines none = grind (arith, common_steps)

-- ---- The receivers of narrowed universes.

abbrev pub with_receivers : Narrowed → List Label × List (ReceiverOutcome (List ℕ))
with_receivers n = (n.labels, receiver_outcomes n.outcomes)

shown_with : (r : AlertingRule) (n : Option Narrowed)
    → outcomes_shown r (option_map with_receivers n) ≡ receiver_outcomes (rule_outcomes_shown r n)
shown_with r None = refl
shown_with r (Some n) = sym (receivers_shown (shown_labels (fixed_labels r) n.labels) n.outcomes)

-- each list of receivers has a whole choice
whole_firsts : (n : Narrowed) → HaveWholeChoices n → HaveWholeFirsts (with_receivers n)
whole_firsts n whole =
    AllByRecursion-each (λ (o : ReceiverOutcome (List ℕ)). IsWhole (sizes n.labels) o.first)
    (receiver_outcomes n.outcomes) (λ o i.
    let pair_of : List (List ℕ) × List ℕ → List ℕ × List ℕ = λ x. (receivers_of x, x.1) in
    let f = IsIn-unmap (receiver_outcome n.outcomes) _ o i in
    let x = IsIn-unmap pair_of n.outcomes f.0 (first_is_one same_text (map pair_of n.outcomes) f.0 f.1) in
    subst (λ (c : List ℕ). IsWhole (sizes n.labels) c)
    (ap (λ (p : List ℕ × List ℕ). p.1) x.2 ∙ ap (λ (o : ReceiverOutcome (List ℕ)). o.first) f.2)
    (AllByRecursion-at (λ (x : List (List ℕ) × List ℕ). IsWhole (sizes n.labels) x.1) n.outcomes x.0 whole x.1))

all_whole : (ns : List Narrowed) → AllByRecursion HaveWholeChoices ns
    → AllByRecursion HaveWholeFirsts (map with_receivers ns)
all_whole [] whole = tt
all_whole (n ∷ ns) whole = (whole_firsts n whole.0, all_whole ns whole.1)

module _ (each : List NarrowedReceivers) (ns : List Narrowed)
    (are : map narrowed_receivers_view each ≡ map with_receivers ns) where
  there : (i : ℕ) (n : NarrowedReceivers) → slice_get each i ≡ Some n
      → slice_get (map with_receivers ns) i ≡ Some (narrowed_receivers_view n)
  there i n at =
      ap (λ ms. slice_get ms i) (sym are) ∙ slice_get-map narrowed_receivers_view each i
      ∙ ap (option_map narrowed_receivers_view) at

  pub whole_at_position : AllByRecursion HaveWholeChoices ns → (position : Option ℕ)
      → IfSome (option_and_then (slice_get each) position) (λ n. HaveWholeFirsts (narrowed_receivers_view n))
  whole_at_position whole None = tt
  whole_at_position whole (Some i) = by (slice_get each i) refl
    where
      by : (n : Option NarrowedReceivers) → slice_get each i ≡ n
          → IfSome n (λ n. HaveWholeFirsts (narrowed_receivers_view n))
      by None at = tt
      by (Some n) at =
          at_place HaveWholeFirsts (map with_receivers ns) i (narrowed_receivers_view n) (all_whole ns whole)
          (there i n at)

  pub shown_at_position : (r : AlertingRule) (position : Option ℕ)
      → outcomes_shown r (option_map narrowed_receivers_view (option_and_then (slice_get each) position))
      ≡ receiver_outcomes (rule_outcomes_shown r (narrowed_of ns position))
  shown_at_position r None = refl
  shown_at_position r (Some i) =
      ap (outcomes_shown r) (sym (slice_get-map narrowed_receivers_view each i)
      ∙ ap (λ ms. slice_get ms i) are ∙ slice_get-map with_receivers ns i)
      ∙ shown_with r (slice_get ns i)
