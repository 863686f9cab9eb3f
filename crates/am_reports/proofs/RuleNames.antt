-- The rules of a rules file have names, and so have their labels.
use Rattle.std.proofs.Common.{◌≢◌, ℕ, List, [], ◌∷◌, Option, Some, None, map, sym, ◌∙◌, subst}
use Rattle.std.proofs.Common.{IfSome, inl, inr}
use Rattle.std.specs.Prelude.{unwrap_or}
use Rattle.std.specs.List.{AllByRecursion, AllZip}
use Rattle.am_list_files.specs.NamedText.{SaysNamedText}
use Rattle.am_alerting_rules.specs.RulesFile.{AlertingRule, HasNames, FileSaysRules, SaysGroup}
use Rattle.am_alerting_rules.specs.RulesFile.{SaysLabels, SaysRule, rules_among, rules_of_groups}
use Rattle.am_alerting_rules.specs.RulesFile.{with_labels_below}
use Rattle.am_alerting_rules.specs.RuleTexts.{HasUtf8Texts}
use Rattle.am_alerting_rules.proofs.LabelsBelow.{all_below}
use Rattle.am_alerting_rules.proofs.RuleTexts.{rules_texts}
use Rattle.am_complete.proofs.MadeUniverses.{all_joined}
use Rattle.am_reports.specs.RulesFile.{SaysRulesIfAny}

abbrev IsNamed : List ℕ × List ℕ → Type 0
IsNamed label = label.0 ≢ []

each_named : (pairs : List _) (labels : List (List ℕ × List ℕ))
    → AllZip (λ pair label. SaysNamedText pair label.0 label.1) pairs labels
    → AllByRecursion IsNamed labels
each_named [] [] says = tt
each_named [] (l ∷ labels) says = absurd says
each_named (p ∷ pairs) [] says = absurd says
each_named (p ∷ pairs) (l ∷ labels) says =
    (λ none. says.0.1 (sym says.0.0 ∙ none), each_named pairs labels says.1)

labels_named : (d : _) (labels : List (List ℕ × List ℕ)) → SaysLabels d labels
    → AllByRecursion IsNamed labels
labels_named d labels (inl none) = subst (AllByRecursion IsNamed) (sym none.1) tt
labels_named d labels (inr says) = each_named _ labels says.each

rules_named : (group : List ℕ) (below : List (List ℕ × List ℕ)) → AllByRecursion IsNamed below
    → (items : List _) (found : List (Option AlertingRule)) → AllZip (SaysRule group) items found
    → AllByRecursion HasNames (map (with_labels_below below) (rules_among found))
rules_named group below named [] [] says = tt
rules_named group below named [] (r ∷ found) says = absurd says
rules_named group below named (d ∷ items) [] says = absurd says
rules_named group below named (d ∷ items) (None ∷ found) says =
    rules_named group below named items found says.1
rules_named group below named (d ∷ items) (Some r ∷ found) says = (
  record {
    rule = says.0.some;
    labels = all_below IsNamed r.labels below (labels_named d r.labels says.0.labels) named;
  },
  rules_named group below named items found says.1,
)

group_named : (d : _) (rules : List AlertingRule) → SaysGroup d rules → AllByRecursion HasNames rules
group_named d rules says =
    subst (AllByRecursion HasNames) (sym says.are)
    (rules_named says.name says.labels (labels_named d says.labels says.says_labels) says.items
    says.found says.each)

groups_named : (items : List _) (groups : List (List AlertingRule)) → AllZip SaysGroup items groups
    → AllByRecursion HasNames (rules_of_groups groups)
groups_named [] [] says = tt
groups_named [] (rules ∷ groups) says = absurd says
groups_named (d ∷ items) [] says = absurd says
groups_named (d ∷ items) (rules ∷ groups) says =
    all_joined HasNames rules (rules_of_groups groups) (group_named d rules says.0)
    (groups_named items groups says.1)

pub file_named : (bytes : List ℕ) (rules : List AlertingRule) → FileSaysRules bytes rules
    → AllByRecursion HasNames rules
file_named bytes rules (short, d, is, says) =
    subst (AllByRecursion HasNames) (sym says.are) (groups_named says.items says.groups says.each)

-- ---- The rules of a file, if there is one.

module _ (P : AlertingRule → Type 0) (holds : (bytes : List ℕ) (rules : List AlertingRule)
    → FileSaysRules bytes rules → AllByRecursion P rules) where
  if_any : (file : Option (List ℕ)) (rules : Option (List AlertingRule)) → SaysRulesIfAny file rules
      → IfSome rules (AllByRecursion P)
  if_any None rules says = subst (λ rs. IfSome rs (AllByRecursion P)) (sym says) tt
  if_any (Some bytes) rules (said, is, says) =
      subst (λ rs. IfSome rs (AllByRecursion P)) (sym is) (holds bytes said says)

  in_any : (rules : Option (List AlertingRule)) → IfSome rules (AllByRecursion P)
      → AllByRecursion P (unwrap_or rules [])
  in_any None all = tt
  in_any (Some rules) all = all

pub named_if_any : (file : Option (List ℕ)) (rules : Option (List AlertingRule))
    → SaysRulesIfAny file rules → IfSome rules (AllByRecursion HasNames)
named_if_any = if_any HasNames file_named

pub texts_if_any : (file : Option (List ℕ)) (rules : Option (List AlertingRule))
    → SaysRulesIfAny file rules → IfSome rules (AllByRecursion HasUtf8Texts)
texts_if_any = if_any HasUtf8Texts rules_texts

pub named_in_any : (file : Option (List ℕ)) (rules : Option (List AlertingRule))
    → SaysRulesIfAny file rules → AllByRecursion HasNames (unwrap_or rules [])
named_in_any file rules says = in_any HasNames file_named rules (named_if_any file rules says)

pub texts_in_any : (file : Option (List ℕ)) (rules : Option (List AlertingRule))
    → SaysRulesIfAny file rules → AllByRecursion HasUtf8Texts (unwrap_or rules [])
texts_in_any file rules says = in_any HasUtf8Texts rules_texts rules (texts_if_any file rules says)
