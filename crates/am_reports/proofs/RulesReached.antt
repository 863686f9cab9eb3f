-- What the outcomes of rules say of their alerts.
use Rattle.std.proofs.Common.{◌≡◌, ◌↔◌, ◌==◌, ℕ, Bool, true, false, List, [], ◌∷◌, ◌++◌, length, map}
use Rattle.std.proofs.Common.{Option, Some, None, Contains, IsTrue, refl, sym, ap, subst, ◌∙◌, arith}
use Rattle.std.proofs.Common.{inl}
use Rattle.std.specs.List.{AllByRecursion, AllZip, flat_map, list_any, range_with_len}
use Rattle.am_universe.specs.LabelSet.{LabelMap}
use Rattle.am_universe.proofs.ListLemmas.{IsIn, IsIn-map, IsIn-unmap, IsIn-from_Contains}
use Rattle.am_universe.proofs.ListLemmas.{Contains-from_IsIn, AllByRecursion-at}
use Rattle.am_universe.proofs.Members.{in_joined, joined_in}
use Rattle.std.proofs.lemmas.Bool.{false≢true}
use Rattle.am_labels.specs.Matcher.{Matcher, all_hold}
use Rattle.am_labels.specs.Space.{Space}
use Rattle.am_labels.proofs.Passing.{any_in, in_any}
use Rattle.am_list_files.specs.AlertsFile.{labels_of}
use Rattle.am_alerting_rules.specs.RulesFile.{AlertingRule, HasNames}
use Rattle.am_alerting_rules.specs.RuleTexts.{HasUtf8Texts}
use Rattle.am_config.specs.ConfigFile.{Configuration}
use Rattle.am_firing.specs.Reach.{Reached}
use Rattle.am_firing.specs.Unreached.{goes_to}
use Rattle.am_classes.specs.declared.alphabet.Alphabet.{Alphabet}
use Rattle.am_outcomes.specs.Configurations.{Configurations, Ends, Matched}
use Rattle.am_outcomes.specs.Outcomes.{AreOutcomesOf, one_if, outcome_of}
use Rattle.am_rule_outcomes.specs.Narrowed.{Narrowed}
use Rattle.am_rule_outcomes.specs.RuleOutcomes.{IsRuleAlert, rule_outcomes_shown, with_rule_outcomes}
use Rattle.am_reports.specs.RulesOutcomes.{AreFoundFor}
use Rattle.am_reports.specs.RulesReach.{AreReached, AreSides, IsMatched, SomeRuleAlert, enters_by}
use Rattle.am_reports.specs.RulesReach.{goes_by, lists_found, lists_of}
use Rattle.am_reports.proofs.RulesOutcomes.{all_are, as_long, rules_first}

abbrev Shown : Type 0
Shown = List (List ℕ) × List (List ℕ × List ℕ)

abbrev only_lists : AlertingRule × List Shown → List (List (List ℕ))
only_lists rule = map (λ (o : Shown). o.0) rule.1

-- the outcomes of a rule, without what is shown for them
without_shown : (f : List (List ℕ) × List ℕ → List (List ℕ × List ℕ))
    (outcomes : List (List (List ℕ) × List ℕ))
    → map (λ outcome. outcome.0) outcomes
    ≡ map (λ (o : Shown). o.0) (map (λ o. (o.0, f o)) outcomes)
without_shown f [] = refl
without_shown f (o ∷ outcomes) = ap (λ all. o.0 ∷ all) (without_shown f outcomes)

lists_shown : (r : AlertingRule) (n : Option Narrowed)
    → lists_of n ≡ map (λ (o : Shown). o.0) (rule_outcomes_shown r n)
lists_shown r None = refl
lists_shown r (Some n) = without_shown _ n.outcomes

lists_of_rules : (rules : List AlertingRule) (found : List (Option Narrowed))
    → length found ≡ length rules
    → lists_found found ≡ flat_map only_lists (with_rule_outcomes rules found)
lists_of_rules [] [] long = refl
lists_of_rules [] (n ∷ found) long = absurd (omega (arith, long))
lists_of_rules (r ∷ rules) [] long = absurd (omega (arith, long))
lists_of_rules (r ∷ rules) (n ∷ found) long =
    λ i. lists_shown r n i ++ lists_of_rules rules found (omega (arith, long)) i

-- a test that says the same of each alert
pub some_alike : (a : Alphabet) (s : Space) (rules : List AlertingRule) (test other : LabelMap → Bool)
    → ((alert : LabelMap) → test alert ≡ other alert) → SomeRuleAlert a s rules test
    → SomeRuleAlert a s rules other
some_alike a s rules test other same some = record {
  rule = some.rule;
  one = some.one;
  alert = some.alert;
  is = some.is;
  passes = sym (same some.alert) ∙ some.passes;
}

-- one of the outcomes passes a test exactly if that of some alert of the rules does
module _ (a : Alphabet) (s : Space) (k : Configurations) (rules : List AlertingRule)
    (found : List (Option Narrowed)) (long : length found ≡ length rules)
    (firsts : map (λ rule. rule.0) (with_rule_outcomes rules found) ≡ rules)
    (are : AllByRecursion (λ rule. AreOutcomesOf (IsRuleAlert a s rule.0) k labels_of rule.1)
    (with_rule_outcomes rules found)) (test : List (List ℕ) → Bool) where
  abbrev each : List (AlertingRule × List Shown)
  each = with_rule_outcomes rules found

  abbrev Are : AlertingRule × List Shown → Type 0
  Are rule = AreOutcomesOf (IsRuleAlert a s rule.0) k labels_of rule.1

  abbrev passes : LabelMap → Bool
  passes alert = test (outcome_of k alert)

  some_passes : list_any test (lists_found found) ≡ true → SomeRuleAlert a s rules passes
  some_passes e =
      let (lists, there, passed) = any_in test (flat_map only_lists each)
      (sym (ap (list_any test) (lists_of_rules rules found long)) ∙ e) in
      let (rule, is, among) = in_joined only_lists each lists there in
      let (o, in_rule, same) = IsIn-unmap (λ (o : Shown). o.0) rule.1 lists among in
      let of = AllByRecursion-at
      (λ (o : Shown). IsRuleAlert a s rule.0 (labels_of o.1) × (outcome_of k (labels_of o.1) ≡ o.0))
      rule.1 o (AllByRecursion-at Are each rule are is).each in_rule in
      record {
        rule = rule.0;
        one = subst (λ rs. Contains rs rule.0) firsts
            (Contains-from_IsIn (map (λ (r : AlertingRule × List Shown). r.0) each) rule.0
            (IsIn-map (λ (r : AlertingRule × List Shown). r.0) each rule is));
        alert = labels_of o.1;
        is = of.0;
        passes = ap test (of.1 ∙ same) ∙ passed;
      }

  passes_some : SomeRuleAlert a s rules passes → list_any test (lists_found found) ≡ true
  passes_some some =
      let there : IsIn (map (λ (r : AlertingRule × List Shown). r.0) each) some.rule =
      IsIn-from_Contains (map (λ (r : AlertingRule × List Shown). r.0) each) some.rule
      (subst (λ rs. Contains rs some.rule) (sym firsts) some.one) in
      let (rule, is, same) = IsIn-unmap (λ (r : AlertingRule × List Shown). r.0) each some.rule there in
      let has = (AllByRecursion-at Are each rule are is).all some.alert
      (subst (λ r. IsRuleAlert a s r some.alert) (sym same) some.is) in
      let outcome = outcome_of k some.alert in
      ap (list_any test) (lists_of_rules rules found long)
      ∙ in_any test (flat_map only_lists each) outcome
      (joined_in only_lists each rule outcome is
      (IsIn-from_Contains (map (λ (o : Shown). o.0) rule.1) outcome has)) some.passes

  pub told_exactly : IsTrue (list_any test (lists_found found)) ↔ SomeRuleAlert a s rules passes
  told_exactly = (some_passes, passes_some)

-- ---- What is found says so.

module _ (a : Alphabet) (s : Space) (k : Configurations) (rules : List AlertingRule)
    (found : List (Option Narrowed)) (h : AreFoundFor a s.impossible k rules found)
    (names : AllByRecursion HasNames rules) (texts : AllByRecursion HasUtf8Texts rules) where
  pub told : (test : List (List ℕ) → Bool) → IsTrue (list_any test (lists_found found))
      ↔ SomeRuleAlert a s rules (λ alert. test (outcome_of k alert))
  told =
      let long = as_long a s.impossible k rules found h in
      told_exactly a s k rules found long (rules_first rules found long)
      (all_are a s k rules found h names texts)

-- the one item of a list that matches
one_item : (b : Bool) → list_any (λ other. other == 0) (one_if b) ≡ b
one_item true = refl
one_item false = refl

pub matched_exactly : (a : Alphabet) (s : Space) (ms : List Matcher) (rules : List AlertingRule)
    (found : List (Option Narrowed)) → AreFoundFor a s.impossible (Matched ms) rules found
    → AllByRecursion HasNames rules → AllByRecursion HasUtf8Texts rules → (matched : Bool)
    → matched ≡ list_any (goes_by 0) (lists_found found) → IsMatched a s rules ms matched
matched_exactly a s ms rules found h names texts matched is =
    let all = told a s (Matched ms) rules found h names texts (goes_by 0) in
    let goes = λ (alert : LabelMap). goes_by 0 (outcome_of (Matched ms) alert) in
    let matches = λ (alert : LabelMap). all_hold alert ms in
    let same = λ (alert : LabelMap). one_item (all_hold alert ms) in (
      λ is_matched. inl (some_alike a s rules goes matches same (all.0 (sym is ∙ is_matched))),
      λ none some.
          false≢true (sym none ∙ is
          ∙ all.1 (some_alike a s rules matches goes (λ alert. sym (same alert)) some)),
    )

-- ---- What is reached.

receivers_told : (P : ℕ → Bool → Type 0) (goes : ℕ → Bool) (rs : List ℕ)
    → ((r : ℕ) → P r (goes r)) → AllZip P rs (map goes rs)
receivers_told P goes [] holds = tt
receivers_told P goes (r ∷ rs) holds = (holds r, receivers_told P goes rs holds)

pub are_reached : (a : Alphabet) (s : Space) (c : Configuration) (rules : List AlertingRule)
    (found : List (Option Narrowed)) → AreFoundFor a s.impossible (Ends c) rules found
    → AllByRecursion HasNames rules → AllByRecursion HasUtf8Texts rules → (reached : Reached)
    → reached.is_any ≡ list_any (λ lists. true) (lists_found found)
    → ((path : List ℕ) → reached.entered path ≡ list_any (enters_by path) (lists_found found))
    → reached.receivers ≡ map (λ r. list_any (goes_by r) (lists_found found))
    (range_with_len 0 (length c.receivers))
    → AllZip (AreSides a s rules) c.rules reached.sides → AreReached a s c rules reached
are_reached a s c rules found h names texts reached any entered receivers sides =
    let all = told a s (Ends c) rules found h names texts in
    record {
      any = (λ is. (all (λ lists. true)).0 (sym any ∙ is), λ some. any ∙ (all (λ lists. true)).1 some);
      routes = λ path. (
        λ is. (all (enters_by path)).0 (sym (entered path) ∙ is),
        λ some. entered path ∙ (all (enters_by path)).1 some,
      );
      receivers = subst
          (AllZip (λ receiver is. IsTrue is ↔ SomeRuleAlert a s rules (goes_to c receiver))
          (range_with_len 0 (length c.receivers))) (sym receivers)
          (receivers_told (λ receiver is. IsTrue is ↔ SomeRuleAlert a s rules (goes_to c receiver))
          (λ r. list_any (goes_by r) (lists_found found)) (range_with_len 0 (length c.receivers))
          (λ r. all (goes_by r)));
      sides = sides;
    }
