-- The outcomes of rules that are found over a universe that stands for every alert.
use Rattle.std.proofs.Common.{◌≡◌, ℕ, List, [], ◌∷◌, map, length, Option, Some, option_map}
use Rattle.std.proofs.Common.{Contains, refl, sym, ap, ◌∙◌, subst, arith}
use Rattle.std.specs.List.{AllByRecursion}
use Rattle.std.proofs.lemmas.List.{length-map}
use Rattle.am_universe.specs.declared.kind.Kind.TheVariants as kinds
use Rattle.am_universe.specs.Universe.{Label}
use Rattle.am_universe.proofs.ListLemmas.{IsIn-unmap, IsIn-from_Contains, Contains-from_IsIn}
use Rattle.am_universe.proofs.ListLemmas.{AllByRecursion-at}
use Rattle.am_labels.specs.Matcher.{Matcher}
use Rattle.am_labels.specs.Space.{Space}
use Rattle.am_json.specs.Pointer.{Refusal, refusal_here}
use Rattle.am_list_files.specs.AlertsFile.{labels_of}
use Rattle.am_eval.specs.Silencing.{is_silenced}
use Rattle.am_eval.specs.World.{World}
use Rattle.am_classes.specs.declared.alphabet.Alphabet.{Alphabet}
use Rattle.am_every_alert.specs.Deciding.{space_of}
use Rattle.am_outcomes.specs.Configurations.{Configurations, tried_of}
use Rattle.am_outcomes.specs.Outcomes.{AreOutcomesOf}
use Rattle.am_outcomes.specs.Ways.{HaveManyWays}
use Rattle.am_alerting_rules.specs.RulesFile.{AlertingRule, HasNames}
use Rattle.am_alerting_rules.specs.RuleTexts.{HasUtf8Texts}
use Rattle.am_rule_outcomes.specs.Narrowed.{AreTooMany, Narrowed, narrowed_outcomes}
use Rattle.am_rule_outcomes.specs.Narrowing.{narrowed, rule_narrowing}
use Rattle.am_rule_outcomes.specs.ReceiverOutcomes.{receiver_outcomes}
use Rattle.am_rule_outcomes.specs.RuleOutcomes.{IsRuleAlert, with_outcomes, with_rule_outcomes}
use Rattle.am_rule_outcomes.specs.StandsForOutcomes.{StandsForOutcomes, outcome_matchers}
use Rattle.am_rule_outcomes.proofs.ChoiceOutcomes.{all_images}
use Rattle.am_rule_outcomes.proofs.OutcomesOfRules.{outcomes_of_each}
use Rattle.am_rule_outcomes.proofs.RuleLaws.{told_by_matchers}
use Rattle.am_rule_outcomes.proofs.SilencedOutcomes.{rule_outcomes_are}
use Rattle.am_reports.specs.ActiveSilences.{active_silences}
use Rattle.am_reports.specs.Made.{StandsForAll}
use Rattle.am_reports.specs.RoutingLabels.{labels_of_routes}
use Rattle.am_reports.specs.RulesOutcomes.{AreFoundFor, TooManyWaysForRule}
use Rattle.am_reports.specs.WhereReport.{HasOutcomes, silenced_by}
use Rattle.am_reports.proofs.ActiveSilences.{silenced_by_active}
use Rattle.am_reports.proofs.LabelsAsked.{labels_asked_of}

-- ---- What is found, and that there are too many ways.

module _ (a : Alphabet) (lists : List (List Matcher)) (k : Configurations) (u : List Label)
    (stands : StandsForAll a lists k u) (rules : List AlertingRule) where
  abbrev narrowing_of : AlertingRule → Option (List (Option ℕ))
  narrowing_of = rule_narrowing a (labels_of_routes k lists) u

  module _ (narrowings : List (Option (List (Option ℕ)))) (are : narrowings ≡ map narrowing_of rules)
      (s : Space) (is : s ≡ space_of lists u) where
    pub found_for : (found : List (Option Narrowed))
        → found ≡ map (option_map (narrowed_outcomes s k)) narrowings → AreFoundFor a lists k rules found
    found_for found from = record {
      labels = u;
      stands = stands;
      are = from ∙ (λ i. map (option_map (narrowed_outcomes (is i) k)) (are i));
    }

    pub too_many_for : (r : Refusal) → AreTooMany s k narrowings → r ≡ refusal_here kinds.Limit
        → TooManyWaysForRule a lists k rules r
    too_many_for r many refusal =
        let one : Contains (map narrowing_of rules) (Some many.kept) =
        subst (λ all. Contains all (Some many.kept)) are many.one in
        let rule = IsIn-unmap narrowing_of rules (Some many.kept)
        (IsIn-from_Contains (map narrowing_of rules) (Some many.kept) one) in
        record {
          labels = u;
          stands = stands;
          rule = rule.0;
          one = Contains-from_IsIn rules rule.0 rule.1;
          kept = many.kept;
          narrows = rule.2;
          many = subst
              (λ (t : Space). HaveManyWays (narrowed t many.kept) (tried_of k))
              is many.many;
          refusal = refusal;
        }

-- ---- Each rule with its outcomes.

-- there are as many as rules
pub as_long : (a : Alphabet) (lists : List (List Matcher)) (k : Configurations)
    (rules : List AlertingRule) (found : List (Option Narrowed)) → AreFoundFor a lists k rules found
    → length found ≡ length rules
as_long a lists k rules found h =
    ap length h.are ∙ length-map (map (rule_narrowing a (labels_of_routes k lists) h.labels) rules) _
    ∙ length-map rules _

pub rules_first : (rules : List AlertingRule) (found : List (Option Narrowed))
    → length found ≡ length rules → map (λ rule. rule.0) (with_rule_outcomes rules found) ≡ rules
rules_first [] found long = refl
rules_first (r ∷ rules) [] long = absurd (omega (arith, long))
rules_first (r ∷ rules) (n ∷ found) long =
    ap (λ rs. r ∷ rs) (rules_first rules found (omega (arith, long)))

-- what stands for every alert stands for the outcomes of all alerts
stands_for_outcomes : (a : Alphabet) (s : Space) (k : Configurations) (u : List Label)
    → StandsForAll a s.impossible k u
    → StandsForOutcomes a s u (labels_of_routes k s.impossible) k
stands_for_outcomes a s k u h = record {
  matchers = outcome_matchers k;
  stands = h.stands;
  labels = labels_asked_of k s.impossible;
  told = λ x y. told_by_matchers x y k;
}

-- each rule has the outcomes of its alerts
pub all_are : (a : Alphabet) (s : Space) (k : Configurations) (rules : List AlertingRule)
    (found : List (Option Narrowed)) → AreFoundFor a s.impossible k rules found
    → AllByRecursion HasNames rules → AllByRecursion HasUtf8Texts rules
    → AllByRecursion (λ rule. AreOutcomesOf (IsRuleAlert a s rule.0) k labels_of rule.1)
    (with_rule_outcomes rules found)
all_are a s k rules found h names texts =
    subst (λ fs. AllByRecursion (λ rule. AreOutcomesOf (IsRuleAlert a s rule.0) k labels_of rule.1)
    (with_rule_outcomes rules fs)) (sym h.are)
    (outcomes_of_each a s h.labels (labels_of_routes k s.impossible) k
    (stands_for_outcomes a s k h.labels h.stands) rules names texts)

-- ---- Each rule with its receivers.

pub receivers_first : (rules : List AlertingRule) (found : List (Option Narrowed))
    → length found ≡ length rules → map (λ rule. rule.0) (with_outcomes rules found) ≡ rules
receivers_first [] found long = refl
receivers_first (r ∷ rules) [] long = absurd (omega (arith, long))
receivers_first (r ∷ rules) (n ∷ found) long =
    ap (λ rs. r ∷ rs) (receivers_first rules found (omega (arith, long)))

pub all_have : (a : Alphabet) (s : Space) (w : World) (rules : List AlertingRule)
    (found : List (Option Narrowed)) → AreFoundFor a s.impossible (silenced_by w) rules found
    → AllByRecursion HasNames rules → AllByRecursion HasUtf8Texts rules
    → AllByRecursion (HasOutcomes a s w) (with_outcomes rules found)
all_have a s w rules found h names texts =
    let each = with_rule_outcomes rules found in
    all_images (HasOutcomes a s w) (λ rule. (rule.0, receiver_outcomes rule.1)) each (λ rule there.
    rule_outcomes_are (IsRuleAlert a s rule.0) w.config (active_silences w) (is_silenced w)
    (λ x. sym (silenced_by_active w x)) rule.1
    (AllByRecursion-at
    (λ rule. AreOutcomesOf (IsRuleAlert a s rule.0) (silenced_by w) labels_of rule.1) each rule
    (all_are a s (silenced_by w) rules found h names texts) there))
