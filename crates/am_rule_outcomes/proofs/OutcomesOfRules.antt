-- The outcomes of the alerts of a rule are those of the choices of a universe that is narrowed to
-- these alerts.
use Rattle.std.proofs.Common.{◌≡◌, ℕ, Bool, true, false, cond, ◌&&◌, List, [], ◌∷◌, map, refl, sym, ◌∙◌}
use Rattle.std.proofs.Common.{Option, Some, None, option_map}
use Rattle.std.specs.List.{AllByRecursion, list_all}
use Rattle.am_universe.specs.Universe.{Label}
use Rattle.am_universe.specs.LabelSet.{LabelMap, label_set_of}
use Rattle.am_universe.proofs.DistinctLists.{distinct_none}
use Rattle.am_labels.specs.Space.{Space, IsChoiceOf}
use Rattle.am_list_files.specs.AlertsFile.{labels_of}
use Rattle.am_classes.specs.declared.alphabet.Alphabet.{Alphabet}
use Rattle.am_complete.specs.AskedLabel.{AskedLabel}
use Rattle.am_every_alert.specs.Deciding.{space_of}
use Rattle.am_outcomes.specs.Configurations.{Configurations}
use Rattle.am_outcomes.specs.Outcomes.{AreOutcomesOf, same_outcome}
use Rattle.am_alerting_rules.specs.RulesFile.{AlertingRule, HasNames}
use Rattle.am_alerting_rules.specs.RuleAlerts.{fixed_labels}
use Rattle.am_alerting_rules.specs.RuleTexts.{HasUtf8Texts}
use Rattle.am_alerting_rules.proofs.FixedLabels.{fixed_distinct, fixed_named}
use Rattle.am_rule_outcomes.specs.Narrowed.{Narrowed, narrowed_outcomes}
use Rattle.am_rule_outcomes.specs.Narrowing.{absence_stands, are_over, narrowed, narrowing}
use Rattle.am_rule_outcomes.specs.Narrowing.{rule_narrowing}
use Rattle.am_rule_outcomes.specs.RuleOutcomes.{IsRuleAlert, rule_outcomes_shown, with_rule_outcomes}
use Rattle.am_rule_outcomes.specs.ShownLabels.{shown_labels}
use Rattle.am_rule_outcomes.specs.StandsForOutcomes.{StandsForOutcomes}
use Rattle.am_rule_outcomes.proofs.ChoiceOutcomes.{HasOutcomeOf, outcomes_are}
use Rattle.am_rule_outcomes.proofs.RuleAlerts.{absence_there, choice_of_rule_alert, fixed_over}
use Rattle.am_rule_outcomes.proofs.RuleAlerts.{not_none, shown_has_fixed, shown_meets}
use Rattle.am_rule_outcomes.proofs.RuleTexts.{fixed_utf8}

-- an answer that stands under two tests
under_tests : {X : Type 0} (b c : Bool) (o : Option X) → b ≡ true → c ≡ true
    → cond (b && c) o None ≡ o
under_tests b c o first second = rw (first, second) refl

passed_tests : {X : Type 0} (b c : Bool) (o : Option X) (x : X) → cond (b && c) o None ≡ Some x
    → (b ≡ true) × (c ≡ true) × (o ≡ Some x)
passed_tests true true o x e = (refl, refl, e)
passed_tests true false o x e = absurd (cc)
passed_tests false c o x e = absurd (cc)

module _ (a : Alphabet) (s : Space) (u : List Label) (asked : List AskedLabel) (k : Configurations)
    (h : StandsForOutcomes a s u asked k) where
  -- the outcomes of a rule, over the universe
  abbrev pub found_outcomes : Option (List (Option ℕ)) → Option Narrowed
  found_outcomes = option_map (narrowed_outcomes (space_of s.impossible u) k)

  module _ (r : AlertingRule) (names : HasNames r) (texts : HasUtf8Texts r) where
    abbrev fixed : List (List ℕ × List ℕ)
    fixed = fixed_labels r

    no_rule_alert : rule_narrowing a asked u r ≡ None → (alert : LabelMap)
        → IsRuleAlert a s r alert → ⊥
    no_rule_alert e alert is =
        let own = fixed_distinct r in
        let named = fixed_named r names in
        not_none a s u h.matchers h.stands asked h.labels fixed own named alert is
        (sym (under_tests (are_over a fixed) (list_all (absence_stands asked u) fixed)
        (narrowing asked fixed u)
        (fixed_over a s u h.matchers h.stands asked h.labels fixed own named alert is)
        (absence_there a s u h.matchers h.stands asked h.labels fixed own named alert is)) ∙ e)

    module _ (ks : List (Option ℕ)) (narrows : rule_narrowing a asked u r ≡ Some ks) where
      abbrev made : Space
      made = narrowed (space_of s.impossible u) ks

      abbrev show : List ℕ → List (List ℕ × List ℕ)
      show c = shown_labels fixed u c

      passed : (are_over a fixed ≡ true) × (list_all (absence_stands asked u) fixed ≡ true)
          × (narrowing asked fixed u ≡ Some ks)
      passed =
          passed_tests (are_over a fixed) (list_all (absence_stands asked u) fixed)
          (narrowing asked fixed u) ks narrows

      of_choice : (c : List ℕ) → IsChoiceOf made c
          → IsRuleAlert a s r (labels_of (show c)) × HasOutcomeOf made k c (labels_of (show c))
      of_choice c choice =
          let own = fixed_distinct r in
          let named = fixed_named r names in (
            shown_has_fixed a s u h.matchers h.stands asked h.labels fixed own named ks passed.2
                passed.1 passed.0 (fixed_utf8 r texts) c choice,
            h.told (label_set_of u c) (labels_of (show c))
                (shown_meets a s u h.matchers h.stands asked h.labels fixed own named ks passed.2
                passed.1 c choice),
          )

      choice_of : (alert : LabelMap) → IsRuleAlert a s r alert
          → (c : List ℕ) × IsChoiceOf made c × HasOutcomeOf made k c alert
      choice_of alert is =
          let c = choice_of_rule_alert a s u h.matchers h.stands asked h.labels fixed
          (fixed_distinct r) (fixed_named r names) ks passed.2 passed.1 alert is in
          (c.0, c.1, h.told (label_set_of u c.0) alert c.2)

    pub outcomes_of_rule : AreOutcomesOf (IsRuleAlert a s r) k labels_of
        (rule_outcomes_shown r (found_outcomes (rule_narrowing a asked u r)))
    outcomes_of_rule = by (rule_narrowing a asked u r) refl
      where
        by : (o : Option (List (Option ℕ))) → rule_narrowing a asked u r ≡ o
            → AreOutcomesOf (IsRuleAlert a s r) k labels_of (rule_outcomes_shown r (found_outcomes o))
        by None e = record {
          each = tt;
          all = λ alert is. absurd (no_rule_alert e alert is);
          once = distinct_none same_outcome;
        }
        by (Some ks) e =
            outcomes_are (made ks e) k (IsRuleAlert a s r) (show ks e) labels_of (of_choice ks e)
            (choice_of ks e)

  pub outcomes_of_each : (rules : List AlertingRule) → AllByRecursion HasNames rules
      → AllByRecursion HasUtf8Texts rules
      → AllByRecursion (λ rule. AreOutcomesOf (IsRuleAlert a s rule.0) k labels_of rule.1)
      (with_rule_outcomes rules (map found_outcomes (map (rule_narrowing a asked u) rules)))
  outcomes_of_each [] names texts = tt
  outcomes_of_each (r ∷ rules) names texts =
      (outcomes_of_rule r names.0 texts.0, outcomes_of_each rules names.1 texts.1)
