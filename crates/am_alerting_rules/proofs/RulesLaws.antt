-- The form of a rules file is lawful, and reading a rules file meets no pattern.
use Rattle.std.proofs.Common.{◌≡◌, ℕ, List, [], Option, Some, None, refl}
use Rattle.serde_json.specs.Data.{Data}
use Rattle.am_json.specs.OptionalItems.{optional_items, read_optional_items}
use Rattle.am_json.specs.Pointer.{Refusal}
use Rattle.am_json.specs.Reading.{IsLawful, MayRefuse, Reading, StopsAtFirst, read_items}
use Rattle.am_json.specs.Reading.{read_next_item, required_items, required_text}
use Rattle.am_alerting_rules.specs.RulesFile.{SaysRules, FileSaysRules}
use Rattle.am_alerting_rules.specs.RulesForm.{IsFirstFaultOfRulesFile, alerting_rule_form}
use Rattle.am_alerting_rules.specs.RulesForm.{group_form, groups_form, labels_form, next_label_form}
use Rattle.am_alerting_rules.specs.RulesForm.{optional_labels_form, rule_form, rule_name_form}
use Rattle.am_alerting_rules.specs.RulesForm.{rule_with, rules_form, rules_file_form}
use Rattle.am_list_files.specs.NamedText.{named_text_form}
use Rattle.am_json.proofs.Deciding.{file_decided}
use Rattle.am_json.proofs.FormLaws.{FormLaws, accept_stops, all_stop, each_plain, file_plain}
use Rattle.am_json.proofs.FormLaws.{file_stops, form_laws, plain, plain_refused, read_items_stop}
use Rattle.am_alerting_rules.proofs.RulesSays.{rules_decide}

labels_stop : (found : Option Data) → StopsAtFirst (optional_labels_form found)
unfolding labels_form next_label_form named_text_form
labels_stop None = accept_stops []
labels_stop (Some d) = search all_stop depth 30

rule_stops : (group : List ℕ) (d : Data) (found : Option Data)
    → StopsAtFirst (rule_with group d found)
unfolding alerting_rule_form rule_name_form
rule_stops group d None = accept_stops None
rule_stops group d (Some alert) = search (all_stop, labels_stop) depth 30

rules_lawful : IsLawful rules_form
unfolding rules_form groups_form group_form rule_form
rules_lawful d = search (all_stop, read_items_stop, labels_stop, rule_stops) depth 30

pub rules_laws : FormLaws SaysRules rules_form
rules_laws = form_laws SaysRules rules_form rules_decide rules_lawful

pub rules_file_laws : FormLaws FileSaysRules rules_file_form
unfolding rules_file_form
rules_file_laws =
    form_laws FileSaysRules rules_file_form (file_decided SaysRules rules_form rules_decide)
    (file_stops rules_form rules_lawful)

-- ---- No pattern.

items_plain : {A : Type 0} (read : Data → Reading A) → ((d : Data) → (read d).patterns ≡ [])
    → (items : List Data) → (read_items (λ _ item. read item) [] items).patterns ≡ []
unfolding read_next_item
items_plain read none items =
    each_plain (read_next_item (λ _ item. read item)) (λ before d. search (plain, none)) [] items

optional_plain : (found : Option Data) → (optional_items found).patterns ≡ []
optional_plain None = refl
optional_plain (Some d) = refl

labels_plain : (found : Option Data) → (optional_labels_form found).patterns ≡ []
unfolding labels_form next_label_form named_text_form
labels_plain None = refl
labels_plain (Some d) = search (plain, each_plain) depth 20

rule_plain : (group : List ℕ) (d : Data) (found : Option Data)
    → (rule_with group d found).patterns ≡ []
unfolding alerting_rule_form rule_name_form
rule_plain group d None = refl
rule_plain group d (Some alert) = search (plain, labels_plain) depth 20

group_plain : (d : Data) → (group_form d).patterns ≡ []
unfolding group_form rule_form required_text read_optional_items
group_plain d = search (plain, items_plain, labels_plain, optional_plain, rule_plain) depth 20

rules_plain : (d : Data) → (rules_form d).patterns ≡ []
unfolding rules_form groups_form required_items
rules_plain d = search (plain, items_plain, group_plain) depth 20

pub rules_file_refused : (bytes : List ℕ) (r : Refusal) → MayRefuse (rules_file_form bytes) r
    → IsFirstFaultOfRulesFile bytes r
unfolding rules_file_form
rules_file_refused bytes r refused =
    plain_refused rules_file_laws bytes r (file_plain rules_form rules_plain bytes) refused
