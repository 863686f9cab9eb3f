-- The outcomes of a space that stands for the alerts that count are those of these alerts.
use Rattle.std.proofs.Common.{◌≡◌, ℕ, List, [], ◌∷◌, map, refl, sym, ap, subst}
use Rattle.am_universe.specs.Universe.{Label}
use Rattle.am_universe.specs.LabelSet.{label_set_of}
use Rattle.am_labels.specs.Space.{Space}
use Rattle.am_classes.specs.declared.alphabet.Alphabet.{Alphabet}
use Rattle.am_every_alert.specs.EveryAlert.{IsAlertOf}
use Rattle.am_every_alert.specs.Deciding.{space_of}
use Rattle.am_every_alert.proofs.SpaceAlerts.{choice_of_alert, alert_of_set}
use Rattle.am_outcomes.specs.Configurations.{Configurations}
use Rattle.am_outcomes.specs.Outcomes.{AreOutcomesOf, outcomes_of}
use Rattle.am_rule_outcomes.specs.StandsForOutcomes.{outcome_matchers}
use Rattle.am_rule_outcomes.proofs.ChoiceOutcomes as choices
use Rattle.am_rule_outcomes.proofs.RuleLaws.{told_by_matchers}
use Rattle.am_reports.specs.Made.{StandsForAll}
use Rattle.am_reports.specs.AllOutcomes.{AreAllOutcomes}

-- choices that are shown as they are
all_same : (found : List (List (List ℕ) × List ℕ)) → map (λ o. (o.0, o.1)) found ≡ found
all_same [] = refl
all_same (o ∷ found) = ap (λ all. o ∷ all) (all_same found)

module _ (a : Alphabet) (s : Space) (k : Configurations) (u : List Label)
    (stands : StandsForAll a s.impossible k u) where
  abbrev made : Space
  made = space_of s.impossible u

  are_of_all : AreOutcomesOf (IsAlertOf a s) k (label_set_of u) (outcomes_of made k)
  are_of_all =
      subst (AreOutcomesOf (IsAlertOf a s) k (label_set_of u)) (all_same (outcomes_of made k))
      (choices.outcomes_are made k (IsAlertOf a s) (λ c. c) (label_set_of u)
      (λ c choice. (
        alert_of_set a made (outcome_matchers k) stands.stands (label_set_of u c) (c, choice, refl),
        refl,
      ))
      (λ alert counts.
      let r = choice_of_alert a made (outcome_matchers k) alert stands.stands.universe
      stands.stands.complete counts in
      (r.0, r.1, told_by_matchers (label_set_of u r.0) alert k r.2)))

  pub outcomes_are : (outcomes : List (List (List ℕ) × List ℕ))
      → outcomes ≡ outcomes_of made k → AreAllOutcomes a s k u outcomes
  outcomes_are outcomes order = record {
    stands = stands;
    order = order;
    are = subst (AreOutcomesOf (IsAlertOf a s) k (label_set_of u)) (sym order) are_of_all;
  }
