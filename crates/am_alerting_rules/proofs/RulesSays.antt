-- A value says alerting rules exactly if reading it finds no fault, and then it says the rules that
-- reading gives.
use Rattle.std.proofs.Common.{◌≡◌, ◌≢◌, ◌≤◌, ◌++◌, List, Option, Some, None, Ok, [], ap, length, inl, inr}
use Rattle.std.proofs.Common.{append-nil, append_assoc, map, refl, subst, sym, ℕ, ◌∙◌, ◌∷◌}
use Rattle.std.specs.List.{AllZip}
use Rattle.std.specs.Prelude.{codes, option_and_then}
use Rattle.serde_json.specs.Data.{Data, Members, object, string}
use Rattle.am_json.specs.Json.{field, items_of, member_list}
use Rattle.am_json.specs.Pointer.{to_field}
use Rattle.am_json.specs.Reading.{as_object, read_each}
use Rattle.am_list_files.specs.NamedText.{SaysNamedText}
use Rattle.am_alerting_rules.specs.RulesFile.{AlertingRule, SaysAlertingRule, SaysGroup, SaysLabels}
use Rattle.am_alerting_rules.specs.RulesFile.{SaysRule, SaysRules, SaysSomeLabels}
use Rattle.am_alerting_rules.specs.RulesFile.{rules_among, rules_of_groups, with_labels_below}
use Rattle.am_alerting_rules.specs.RulesForm.{alerting_rule_form, group_form, groups_form}
use Rattle.am_alerting_rules.specs.RulesForm.{labels_form, next_label_form, optional_labels_form}
use Rattle.am_alerting_rules.specs.RulesForm.{rule_form, rule_name_form, rule_with, rules_form}
use Rattle.am_alerting_rules.specs.declared.limits.TheConstants.{MAX_ALERTING_RULES, MAX_GROUPS}
use Rattle.am_alerting_rules.specs.declared.limits.TheConstants.{MAX_RULE_LABELS}
use Rattle.am_json.proofs.Deciding.{accept_decides, as_object_decides}
use Rattle.am_json.proofs.Deciding.{as_text_decides, behind_decides, checked_decides, count_decides}
use Rattle.am_json.proofs.Deciding.{items_decide, object_of, optional_decides, optional_items_decide}
use Rattle.am_json.proofs.Deciding.{said_as, text_decides, then_decides, within_decides}
use Rattle.am_json.proofs.Items.{each_decide}
use Rattle.am_json.proofs.Readings.{Decides}
use Rattle.am_list_files.proofs.Matching.{named_decides}
use Rattle.am_list_files.proofs.NamedTextLemmas.{named_text_decides}

-- ---- The labels of a rule or of a group.

abbrev Labels : Type 0
Labels = List (List ℕ × List ℕ)

-- a member says a label
abbrev SaysLabel : List ℕ × Data → List ℕ × List ℕ → Type 0
SaysLabel pair label = SaysNamedText pair label.0 label.1

-- the label that a member says, and those that members say, are added
abbrev IsAdded : Labels → List ℕ × Data → Labels → Type 0
IsAdded before pair all =
    (text : List ℕ) × SaysNamedText pair pair.0 text × (before ++ (pair.0, text) ∷ [] ≡ all)

abbrev AreAdded : Labels → List (List ℕ × Data) → Labels → Type 0
AreAdded before pairs all =
    (labels : Labels) × AllZip SaysLabel pairs labels × (before ++ labels ≡ all)

label_decides : (before : Labels) (pair : List ℕ × Data)
    → Decides (IsAdded before pair) ((next_label_form before pair).result)
unfolding next_label_form
label_decides before pair =
    then_decides (within_decides (to_field pair.0) (named_text_decides pair.0 pair.1))
    (λ text. accept_decides (before ++ (pair.0, text) ∷ []))

none_added : (before all labels : Labels) → AllZip SaysLabel [] labels → before ++ labels ≡ all
    → before ≡ all
none_added before all [] said is = sym (append-nil before) ∙ is
none_added before all (label ∷ labels) said is = absurd said

first_added : (before all : Labels) (pair : List ℕ × Data) (pairs : List (List ℕ × Data))
    (labels : Labels) → AllZip SaysLabel (pair ∷ pairs) labels → before ++ labels ≡ all
    → (next : Labels) × IsAdded before pair next × AreAdded next pairs all
first_added before all pair pairs [] said is = absurd said
first_added before all pair pairs (label ∷ labels) said is = (
  before ++ label ∷ [],
  (
    label.1,
    (refl, said.0.1, said.0.2),
    ap (λ (name : List ℕ). before ++ (name, label.1) ∷ []) (sym said.0.0),
  ),
  (labels, said.1, append_assoc before (label ∷ []) labels ∙ is),
)

labels_decide : (pairs : List (List ℕ × Data)) (before : Labels)
    → Decides (AreAdded before pairs) ((read_each next_label_form before pairs).result)
unfolding read_each
labels_decide [] before =
    said_as (accept_decides before) (λ all is. ([], tt, append-nil before ∙ is))
    (λ all (labels, said, is). none_added before all labels said is)
labels_decide (pair ∷ pairs) before =
    said_as (then_decides (label_decides before pair) (λ next. labels_decide pairs next))
    (λ all (next, (text, said, same), (labels, each, is)). (
      (pair.0, text) ∷ labels,
      (said, each),
      sym (append_assoc before ((pair.0, text) ∷ []) labels)
          ∙ ap (λ (b : Labels). b ++ labels) same ∙ is,
    ))
    (λ all (labels, said, is). first_added before all pair pairs labels said is)

-- a value says labels
record SaysObject (d : Data) (labels : Labels) : Type 0 where
  members : Members
  is : d ≡ object members
  few : length (member_list members) ≤ MAX_RULE_LABELS
  each : AllZip SaysLabel (member_list members) labels

object_decides : (d : Data) → Decides (SaysObject d) ((labels_form d).result)
unfolding labels_form
object_decides d =
    said_as
    (then_decides (as_object_decides d)
    (λ members. then_decides (count_decides MAX_RULE_LABELS (length (member_list members)))
    (λ _. labels_decide (member_list members) [])))
    (λ labels (members, is, (_, few, (found, each, same))). record {
      members = members;
      is = is;
      few = few;
      each = subst (λ (ls : Labels). AllZip SaysLabel (member_list members) ls) same each;
    })
    (λ labels said. (said.members, said.is, (tt, said.few, (labels, said.each, refl))))

in_field : (d v : Data) (labels : Labels) → field (codes "labels") d ≡ Some v → SaysObject v labels
    → SaysSomeLabels d labels
in_field d v labels there said = record {
  members = said.members;
  has_labels = there ∙ ap (λ (x : Data). Some x) said.is;
  few = said.few;
  each = said.each;
}

of_field : (d : Data) (labels : Labels) → SaysSomeLabels d labels
    → (v : Data) × (field (codes "labels") d ≡ Some v) × SaysObject v labels
of_field d labels said = (
  object said.members,
  said.has_labels,
  record { members = said.members; is = refl; few = said.few; each = said.each },
)

optional_labels_decide : (d : Data)
    → Decides (SaysLabels d) ((optional_labels_form (field (codes "labels") d)).result)
optional_labels_decide d =
    said_as
    (optional_decides (λ found. (optional_labels_form found).result) (accept_decides [])
    (λ v. within_decides (to_field (codes "labels")) (object_decides v)) (field (codes "labels") d))
    (λ labels. elim [
      | inl none ↦ inl (none.0, sym none.1)
      | inr some ↦ inr (in_field d some.0 labels some.1 some.2)
    ])
    (λ labels. elim [
      | inl none ↦ inl (none.0, sym none.1)
      | inr said ↦ inr (of_field d labels said)
    ])

-- ---- A rule.

rule_name_decides : (d : Data)
    → Decides (λ name. (d ≡ string name) × (name ≢ [])) ((rule_name_form d).result)
unfolding rule_name_form
rule_name_decides d = checked_decides (as_text_decides d) named_decides

some_same : {v w : Data} → Some v ≡ Some w → v ≡ w
some_same h = cc

module _ (group : List ℕ) (d : Data) where
  abbrev rule_of : List ℕ → Labels → AlertingRule
  rule_of name labels = record { group = group; name = name; labels = labels }

  named : (alert : Data) (name : List ℕ) (labels : Labels) (rule : AlertingRule)
      → field (codes "alert") d ≡ Some alert → alert ≡ string name → name ≢ []
      → SaysLabels d labels → rule_of name labels ≡ rule → SaysAlertingRule group d rule
  named alert name labels rule there is some said same =
      subst (λ (r : AlertingRule). SaysAlertingRule group d r) same (record {
        name = there ∙ ap (λ (v : Data). Some v) is;
        some = some;
        of_group = refl;
        labels = said;
      })

  alerting_rule_decides : (alert : Data) → field (codes "alert") d ≡ Some alert
      → Decides (SaysAlertingRule group d) ((alerting_rule_form group alert d).result)
  unfolding alerting_rule_form
  alerting_rule_decides alert there =
      said_as
      (then_decides (within_decides (to_field (codes "alert")) (rule_name_decides alert))
      (λ name. then_decides (optional_labels_decide d)
      (λ labels. accept_decides (rule_of name labels))))
      (λ rule (name, (is, some), (labels, said, same)).
      named alert name labels rule there is some said same)
      (λ rule said. (
        rule.name,
        (some_same (sym there ∙ said.name), said.some),
        (
          rule.labels,
          said.labels,
          ap (λ (g : List ℕ). record rule { group = g }) (sym said.of_group),
        ),
      ))

  -- what is said of the field `alert`
  abbrev SaysFound : Option AlertingRule → Type 0
  SaysFound None = field (codes "alert") d ≡ None
  SaysFound (Some rule) = SaysAlertingRule group d rule

  found_none : (rule : Option AlertingRule) → field (codes "alert") d ≡ None → SaysFound rule
      → None ≡ rule
  found_none None absent said = refl
  found_none (Some rule) absent said =
      let both : None ≡ Some (string rule.name) = sym absent ∙ said.name in absurd cc

  found_some : (alert : Data) (found : Option AlertingRule) → field (codes "alert") d ≡ Some alert
      → SaysFound found
      → (rule : AlertingRule) × SaysAlertingRule group d rule × (Some rule ≡ found)
  found_some alert None there said =
      let both : Some alert ≡ None = sym there ∙ said in absurd cc
  found_some alert (Some rule) there said = (rule, said, refl)

  found_decides : (found : Option Data) → field (codes "alert") d ≡ found
      → Decides SaysFound ((rule_with group d found).result)
  found_decides None absent =
      said_as (accept_decides None) (λ rule is. subst (λ (r : Option AlertingRule). SaysFound r) is absent)
      (λ rule said. found_none rule absent said)
  found_decides (Some alert) there =
      said_as
      (then_decides (alerting_rule_decides alert there) (λ rule. accept_decides (Some rule)))
      (λ found (rule, said, is). subst (λ (r : Option AlertingRule). SaysFound r) is said)
      (λ found said. found_some alert found there said)

  in_object : (rule : Option AlertingRule) → (members : Members) × (d ≡ object members) × SaysFound rule
      → SaysRule group d rule
  in_object None said = said
  in_object (Some rule) said = said.2

  of_object : (rule : Option AlertingRule) → SaysRule group d rule
      → (members : Members) × (d ≡ object members) × SaysFound rule
  of_object None said = said
  of_object (Some rule) said =
      let is = object_of (codes "alert") d (string rule.name) said.name in
      (is.0, (as_object_decides d).says is.0 is.1, said)

  rule_decides : Decides (SaysRule group d) ((rule_form group d).result)
  unfolding rule_form
  rule_decides =
      said_as
      (then_decides (as_object_decides d)
      (λ _. found_decides (field (codes "alert") d) refl))
      in_object of_object

-- ---- The rules of groups.

group_decides : (d : Data) → Decides (SaysGroup d) ((group_form d).result)
unfolding group_form
group_decides d =
    behind_decides (λ rules said. object_of (codes "name") d (string said.name) said.named)
    (said_as
    (then_decides (text_decides (codes "name") d)
    (λ name. then_decides (optional_labels_decide d)
    (λ labels. then_decides (optional_items_decide (codes "rules") d)
    (λ items. then_decides
    (within_decides (to_field (codes "rules"))
    (each_decide (SaysRule name) (rule_form name) (rule_decides name) items))
    (λ found. accept_decides (map (with_labels_below labels) (rules_among found)))))))
    (λ rules (name, named, (labels, says_labels, (items, has, (found, each, is)))). record {
      name = name;
      named = named;
      labels = labels;
      says_labels = says_labels;
      items = items;
      is_array = has;
      found = found;
      each = each;
      are = sym is;
    })
    (λ rules said. (
      said.name,
      said.named,
      (
        said.labels,
        said.says_labels,
        (said.items, said.is_array, (said.found, said.each, sym said.are)),
      ),
    )))

-- groups say these rules
record SaysGroups (items : List Data) (rules : List AlertingRule) : Type 0 where
  few_groups : length items ≤ MAX_GROUPS
  groups : List (List AlertingRule)
  each : AllZip SaysGroup items groups
  are : rules_of_groups groups ≡ rules
  few : length (rules_of_groups groups) ≤ MAX_ALERTING_RULES

groups_decide : (items : List Data) → Decides (SaysGroups items) ((groups_form items).result)
unfolding groups_form
groups_decide items =
    said_as
    (then_decides (count_decides MAX_GROUPS (length items))
    (λ _. then_decides (each_decide SaysGroup group_form group_decides items)
    (λ groups. then_decides (count_decides MAX_ALERTING_RULES (length (rules_of_groups groups)))
    (λ _. accept_decides (rules_of_groups groups)))))
    (λ rules (_, few_groups, (groups, each, (_, few, is))).
    record { few_groups = few_groups; groups = groups; each = each; are = is; few = few })
    (λ rules said.
    (tt, said.few_groups, (said.groups, said.each, (tt, said.few, said.are))))

-- a value whose field has groups is an object
has_field : (d : Data) (items : List Data)
    → option_and_then items_of (field (codes "groups") d) ≡ Some items
    → (members : Members) × ((as_object d).result ≡ Ok members)
has_field (object members) items h = (members, refl)
has_field d items h = absurd cc

pub rules_decide : (d : Data) → Decides (SaysRules d) ((rules_form d).result)
unfolding rules_form
rules_decide d =
    behind_decides (λ rules said. has_field d said.items said.is_array)
    (said_as
    (then_decides (items_decide (codes "groups") d)
    (λ items. within_decides (to_field (codes "groups")) (groups_decide items)))
    (λ rules (items, is_array, said).
    record {
      items = items;
      is_array = is_array;
      few_groups = said.few_groups;
      groups = said.groups;
      each = said.each;
      are = sym said.are;
      few = subst (λ (rs : List AlertingRule). length rs ≤ MAX_ALERTING_RULES) said.are said.few;
    })
    (λ rules said. (
      said.items,
      said.is_array,
      record {
        few_groups = said.few_groups;
        groups = said.groups;
        each = said.each;
        are = sym said.are;
        few = subst (λ (rs : List AlertingRule). length rs ≤ MAX_ALERTING_RULES) said.are said.few;
      },
    )))
