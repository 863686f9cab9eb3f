-- A comparison for every alert, and one for the alerts of alerting rules.
use Rattle.std.proofs.Common.{◌≡◌, ◌⊎◌, ◌↔◌, ◌+◌, ℕ, List, [], ◌∷◌, length, map, Option, refl, sym}
use Rattle.std.proofs.Common.{Contains, ap, subst, ◌∙◌, inl, inr, arith}
use Rattle.std.specs.List.{AllByRecursion, IsDistinct, flat_map}
use Rattle.std.proofs.lemmas.List.{length-map, length-append}
use Rattle.am_universe.specs.Text.{same_text}
use Rattle.am_universe.specs.Universe.{Label}
use Rattle.am_universe.specs.LabelSet.{LabelMap, label_set_of}
use Rattle.am_universe.proofs.ListLemmas.{IsIn, IsIn-map, IsIn-unmap, IsIn-from_Contains}
use Rattle.am_universe.proofs.ListLemmas.{Contains-from_IsIn, AllByRecursion-each}
use Rattle.am_universe.proofs.ListLemmas.{AllByRecursion-at}
use Rattle.am_universe.proofs.Members.{in_joined, joined_in}
use Rattle.am_labels.specs.Space.{Space}
use Rattle.am_list_files.specs.AlertsFile.{labels_of}
use Rattle.am_alerting_rules.specs.RulesFile.{AlertingRule}
use Rattle.am_config.specs.ConfigFile.{Configuration}
use Rattle.am_config.specs.WholeConfig.{WholeConfiguration}
use Rattle.am_classes.specs.declared.alphabet.Alphabet.{Alphabet}
use Rattle.am_every_alert.specs.EveryAlert.{IsAlertOf}
use Rattle.am_differences.specs.PartLines.{part_lines}
use Rattle.am_differences.proofs.SameParts.{no_part_lines}
use Rattle.am_report_texts.specs.declared.writing.Form.{Form}
use Rattle.am_report_texts.specs.Written.{IsWritten}
use Rattle.am_outcomes.specs.Configurations.{Pair}
use Rattle.am_outcomes.specs.Handling.{IsHandledAlike}
use Rattle.am_outcomes.specs.Outcomes.{AreOutcomesOf}
use Rattle.am_outcomes.specs.Changes.{changes_of, shown_change}
use Rattle.am_outcomes.specs.ChangeLines.{changes_report, count_changes}
use Rattle.am_rule_outcomes.specs.Narrowed.{Narrowed}
use Rattle.am_rule_outcomes.specs.RuleChanges.{changes_of_rules, rule_change}
use Rattle.am_rule_outcomes.specs.RuleOutcomes.{IsRuleAlert, with_rule_outcomes}
use Rattle.am_reports.specs.AllOutcomes.{AreAllOutcomes}
use Rattle.am_reports.specs.RulesOutcomes.{AreFoundFor}
use Rattle.am_reports.specs.Comparing.{AreChanges, HasChange, IsAlertOfOne, IsChange, IsComparison}
use Rattle.am_reports.specs.Comparing.{IsRulesComparison, NothingChanges}
use Rattle.am_reports.proofs.ChangeLemmas.{changes_are, none_told, none_there, lose, gain}

-- nothing changes exactly if there is no change, and no part differs
counted_none : (Are : LabelMap → Type 0) (old new : WholeConfiguration) (changes count : ℕ)
    → (changes ≡ 0) ↔ ((alert : LabelMap) → Are alert → IsHandledAlike old.config new.config alert)
    → count ≡ changes + length (part_lines old new) → (count ≡ 0) ↔ NothingChanges Are old new
counted_none Are old new changes count alike counted = (
  λ none. (
    alike.0 (omega (arith, none, counted)),
    (no_part_lines old new).0 (omega (arith, none, counted)),
  ),
  λ same.
      let no_changes = alike.1 same.0 in
      let no_parts = (no_part_lines old new).1 same.1 in
      omega (arith, counted, no_changes, no_parts),
)

-- ---- For every alert.

pub compared : (a : Alphabet) (s : Space) (old new : WholeConfiguration) (u : List Label)
    (outcomes : List (List (List ℕ) × List ℕ))
    → AreAllOutcomes a s (Pair old.config new.config) u outcomes
    → IsDistinct same_text old.config.receivers → IsDistinct same_text new.config.receivers
    → (form : Form) (count : ℕ) (report : List ℕ)
    → count
    ≡ count_changes old new (map (shown_change u) (changes_of old.config new.config outcomes))
    → IsWritten form (changes_report old new
    (map (shown_change u) (changes_of old.config new.config outcomes))) report
    → IsComparison a s old new form count report
compared a s old new u outcomes of_all old_apart new_apart form count report counted text =
    let Are = IsAlertOf a s in
    let set_of = label_set_of u in
    let changes = changes_of old.config new.config outcomes in
    let are = changes_are Are set_of old.config new.config outcomes of_all.are in
    let so = λ (change : List (List ℕ) × List ℕ) (there : IsIn changes change).
    AllByRecursion-at (IsChange Are set_of old.config new.config) changes change are.each there in
    record {
      labels = u;
      outcomes = outcomes;
      of_all = of_all;
      changes = changes;
      changes_are = refl;
      are = are;
      lose = lose Are set_of old.config new.config changes so are.all old_apart;
      gain = gain Are set_of old.config new.config changes so are.all new_apart;
      none = counted_none Are old new (length changes) count (
        none_told Are set_of old.config new.config changes so are.all,
        none_there Are set_of old.config new.config changes so are.all,
      )
          (counted ∙ ap (λ n. n + length (part_lines old new))
          (length-map changes (shown_change u)));
      counted = counted;
      text = text;
    }

-- ---- For the alerts of alerting rules.

-- there are as many lines as changes
as_many : (old new : Configuration)
    (rules : List (AlertingRule × List (List (List ℕ) × List (List ℕ × List ℕ))))
    → length (changes_of_rules old new rules) ≡ length (flat_map (λ rule. changes_of old new rule.1) rules)
as_many old new [] = refl
as_many old new (rule ∷ rules) =
    let found = changes_of old new rule.1 in
    length-append (map (rule_change rule.0) found) (changes_of_rules old new rules)
    ∙ (λ i. length-map found (rule_change rule.0) i + as_many old new rules i)
    ∙ sym (length-append found (flat_map (λ r. changes_of old new r.1) rules))

module _ (a : Alphabet) (s : Space) (old new : WholeConfiguration) (rules : List AlertingRule)
    (found : List (Option Narrowed)) where
  abbrev Outcomes : Type 0
  Outcomes = List (List (List ℕ) × List (List ℕ × List ℕ))

  abbrev each_rule : List (AlertingRule × Outcomes)
  each_rule = with_rule_outcomes rules found

  abbrev HasOutcomes : AlertingRule × Outcomes → Type 0
  HasOutcomes rule =
      AreOutcomesOf (IsRuleAlert a s rule.0) (Pair old.config new.config) labels_of rule.1

  abbrev HasChanges : AlertingRule × Outcomes → Type 0
  HasChanges rule =
      AreChanges (IsRuleAlert a s rule.0) labels_of old.config new.config
      (changes_of old.config new.config rule.1)

  abbrev IsOne : LabelMap → Type 0
  IsOne = IsAlertOfOne a s rules

  abbrev changes_in : AlertingRule × Outcomes → Outcomes
  changes_in rule = changes_of old.config new.config rule.1

  abbrev changes : Outcomes
  changes = flat_map changes_in each_rule

  module _ (firsts : map (λ rule. rule.0) each_rule ≡ rules)
      (outcomes : AllByRecursion HasOutcomes each_rule) where
    have_changes : AllByRecursion HasChanges each_rule
    have_changes =
        AllByRecursion-each HasChanges each_rule (λ rule there.
        changes_are (IsRuleAlert a s rule.0) labels_of old.config new.config rule.1
        (AllByRecursion-at HasOutcomes each_rule rule outcomes there))

    rule_there : (rule : AlertingRule × Outcomes) → IsIn each_rule rule → Contains rules rule.0
    rule_there rule there =
        subst (λ rs. Contains rs rule.0) firsts
        (Contains-from_IsIn (map (λ (r : AlertingRule × Outcomes). r.0) each_rule) rule.0
        (IsIn-map (λ (r : AlertingRule × Outcomes). r.0) each_rule rule there))

    each_so : (change : List (List ℕ) × List (List ℕ × List ℕ)) → IsIn changes change
        → IsChange IsOne labels_of old.config new.config change
    each_so change there =
        let (rule, is, among) = in_joined changes_in each_rule change there in
        let so = AllByRecursion-at
        (IsChange (IsRuleAlert a s rule.0) labels_of old.config new.config)
        (changes_in rule) change (AllByRecursion-at HasChanges each_rule rule have_changes is).each
        among in
        ((rule.0, rule_there rule is, so.0), so.1, so.2)

    all_so : (alert : LabelMap) → IsOne alert
        → IsHandledAlike old.config new.config alert
        ⊎ HasChange IsOne labels_of old.config new.config changes alert
    all_so alert (r, one, counts) =
        let there : IsIn (map (λ (rule : AlertingRule × Outcomes). rule.0) each_rule) r =
        IsIn-from_Contains (map (λ (rule : AlertingRule × Outcomes). rule.0) each_rule) r
        (subst (λ rs. Contains rs r) (sym firsts) one) in
        let (rule, is, same) = IsIn-unmap (λ (rule : AlertingRule × Outcomes). rule.0) each_rule r
        there in
        let all = (AllByRecursion-at HasChanges each_rule rule have_changes is).all alert
        (subst (λ q. IsRuleAlert a s q alert) (sym same) counts) in
        elim all [
          | inl alike ↦ inl alike
          | inr told ↦
              let among = IsIn-from_Contains
              (map (λ (c : List (List ℕ) × List (List ℕ × List ℕ)). c.0) (changes_in rule)) _ told in
              let (change, in_rule, has) =
              IsIn-unmap (λ (c : List (List ℕ) × List (List ℕ × List ℕ)). c.0) (changes_in rule) _
              among in
              inr (subst
              (Contains (map (λ (c : List (List ℕ) × List (List ℕ × List ℕ)). c.0) changes)) has
              (Contains-from_IsIn
              (map (λ (c : List (List ℕ) × List (List ℕ × List ℕ)). c.0) changes) change.0
              (IsIn-map (λ (c : List (List ℕ) × List (List ℕ × List ℕ)). c.0) changes change
              (joined_in changes_in each_rule rule change is in_rule))))
        ]

    pub compared_by_rules : IsDistinct same_text old.config.receivers
        → IsDistinct same_text new.config.receivers
        → (form : Form) (count : ℕ) (report : List ℕ)
        → count ≡ count_changes old new (changes_of_rules old.config new.config each_rule)
        → IsWritten form (changes_report old new
        (changes_of_rules old.config new.config each_rule)) report
        → AreFoundFor a s.impossible (Pair old.config new.config) rules found
        → IsRulesComparison a s old new rules form count report
    compared_by_rules old_apart new_apart form count report counted text over =
        record {
          found = found;
          over = over;
          each_rule = firsts;
          outcomes = outcomes;
          are = have_changes;
          changes = changes;
          changes_are = refl;
          lose = lose IsOne labels_of old.config new.config changes each_so all_so old_apart;
          gain = gain IsOne labels_of old.config new.config changes each_so all_so new_apart;
          none = counted_none IsOne old new (length changes) count (
            none_told IsOne labels_of old.config new.config changes each_so all_so,
            none_there IsOne labels_of old.config new.config changes each_so all_so,
          )
              (counted ∙ ap (λ n. n + length (part_lines old new))
              (as_many old.config new.config each_rule));
          counted = counted;
          text = text;
        }
