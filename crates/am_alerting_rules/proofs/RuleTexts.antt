-- The texts of a rules file are UTF-8, since those of a JSON value are.
use Rattle.std.proofs.Common.{◌≡◌, ℕ, List, [], ◌∷◌, Option, Some, None}
use Rattle.std.proofs.Common.{IsUtf8, codes, map, sym, subst, inl, inr}
use Rattle.std.specs.Prelude.{IfSome}
use Rattle.std.specs.List.{AllByRecursion, AllZip}
use Rattle.std.specs.Ordering.{nat_cmp, match_ordering}
use Rattle.std.specs.Cmp.Lexicographic.{slice_cmp}
use Rattle.std.specs.declared.cmp.Ordering.{Ordering}
use Rattle.std.specs.declared.cmp.Ordering.TheVariants.{Less, Equal, Greater}
use Rattle.std.proofs.lemmas.Bool.{cond_both}
use Rattle.serde_json.specs.Data.{Data, string, object, Members, no_members, member}
use Rattle.serde_json.specs.Find.{get, get_member}
use Rattle.am_universe.proofs.ListLemmas.{AllByRecursion-at, AllByRecursion-each}
use Rattle.am_universe.proofs.Members.{in_joined}
use Rattle.am_json.specs.Json.{field, is_null, member_list, non_null}
use Rattle.am_json.specs.OptionalItems.{HasItems}
use Rattle.am_json.proofs.StringTexts.{then_given}
use Rattle.am_json.proofs.ValueTexts.{HasText, file_text, items_in}
use Rattle.am_list_files.specs.NamedText.{SaysNamedText}
use Rattle.am_alerting_rules.specs.RulesFile.{AlertingRule, FileSaysRules, SaysGroup, SaysLabels}
use Rattle.am_alerting_rules.specs.RulesFile.{SaysRule, rules_among, rules_of_groups}
use Rattle.am_alerting_rules.specs.RulesFile.{with_labels_below}
use Rattle.am_alerting_rules.specs.RuleTexts.{HasUtf8Texts}
use Rattle.am_alerting_rules.proofs.LabelsBelow.{all_below}

abbrev AreUtf8 : List (List ℕ × List ℕ) → Type 0
AreUtf8 labels = AllByRecursion (λ l. IsUtf8 l.1) labels

-- ---- The texts of a JSON value.

one_of_three : {A : Type 0} (P : A → Type 0) (order : Ordering) (x y z : A) → P x → P y → P z
    → P (match_ordering order x y z)
one_of_three P Less x y z h k l = h
one_of_three P Equal x y z h k l = k
one_of_three P Greater x y z h k l = l

member_text : (k : List ℕ) (ms : Members) → HasText (object ms) → IfSome (get_member k ms) HasText
member_text k no_members h = tt
member_text k (member l d ms) h =
    let later = member_text k ms h.1 in
    one_of_three (λ o. IfSome o HasText) (slice_cmp nat_cmp k l) _ _ _ later h.0 later

each_member : (ms : Members) → HasText (object ms)
    → AllByRecursion (λ p. HasText p.1) (member_list ms)
each_member no_members h = tt
each_member (member k d ms) h = (h.0, each_member ms h.1)

-- what is true of all that is said by items with a property
each_said : {A B : Type 0} (Says : A → B → Type 0) (P : A → Type 0) (Q : B → Type 0)
    → ((x : A) (y : B) → P x → Says x y → Q y) → (xs : List A) (ys : List B)
    → AllByRecursion P xs → AllZip Says xs ys → AllByRecursion Q ys
each_said Says P Q step [] [] all says = tt
each_said Says P Q step [] (y ∷ ys) all says = absurd says
each_said Says P Q step (x ∷ xs) [] all says = absurd says
each_said Says P Q step (x ∷ xs) (y ∷ ys) all says =
    (step x y all.0 says.0, each_said Says P Q step xs ys all.1 says.1)

-- the text of a value, if it is one, and those of its members, are UTF-8
get_text : (k : List ℕ) (d : Data) → HasText d → IfSome (get k d) HasText
get_text k (object ms) h = member_text k ms h
get_text k d h = tt

field_text : (k : List ℕ) (d part : Data) → HasText d → field k d ≡ Some part → HasText part
field_text k d part h e =
    subst (λ o. IfSome o HasText) e
    (then_given HasText HasText non_null (get k d) (get_text k d h) (λ found text.
    cond_both (is_null found) None (Some found) (λ o. IfSome o HasText) (λ none. tt) (λ some. text)))

-- ---- The texts of rules.

labels_text : (d : Data) (labels : List (List ℕ × List ℕ)) → HasText d → SaysLabels d labels
    → AreUtf8 labels
labels_text d labels h (inl none) = subst AreUtf8 (sym none.1) tt
labels_text d labels h (inr says) =
    each_said (λ pair label. SaysNamedText pair label.0 label.1) (λ p. HasText p.1)
    (λ l. IsUtf8 l.1) (λ pair label text said. subst HasText said.2 text)
    (member_list says.members) labels
    (each_member says.members (field_text (codes "labels") d (object says.members) h says.has_labels))
    says.each

rule_text : (group : List ℕ) (d : Data) (r : Option AlertingRule) → HasText d → SaysRule group d r
    → IfSome r HasUtf8Texts
rule_text group d None h says = tt
rule_text group d (Some r) h says = record {
  name = field_text (codes "alert") d (string r.name) h says.name;
  labels = labels_text d r.labels h says.labels;
}

-- the alerting rules among rules, with the labels of their group below their own
rules_kept : (labels : List (List ℕ × List ℕ)) (found : List (Option AlertingRule)) → AreUtf8 labels
    → AllByRecursion (λ r. IfSome r HasUtf8Texts) found
    → AllByRecursion HasUtf8Texts (map (with_labels_below labels) (rules_among found))
rules_kept labels [] below all = tt
rules_kept labels (None ∷ found) below all = rules_kept labels found below all.1
rules_kept labels (Some r ∷ found) below all = (
  record { name = all.0.name; labels = all_below (λ l. IsUtf8 l.1) r.labels labels all.0.labels below },
  rules_kept labels found below all.1,
)

rule_items : (d : Data) (items : List Data) → HasText d → HasItems (codes "rules") d items
    → AllByRecursion HasText items
rule_items d items h (inl none) = subst (AllByRecursion HasText) (sym none.1) tt
rule_items d items h (inr some) = items_in (codes "rules") d items h some

group_text : (d : Data) (rules : List AlertingRule) → HasText d → SaysGroup d rules
    → AllByRecursion HasUtf8Texts rules
group_text d rules h says =
    subst (AllByRecursion HasUtf8Texts) (sym says.are)
    (rules_kept says.labels says.found (labels_text d says.labels h says.says_labels)
    (each_said (SaysRule says.name) HasText (λ r. IfSome r HasUtf8Texts) (rule_text says.name)
    says.items says.found (rule_items d says.items h says.is_array) says.each))

pub rules_texts : (bytes : List ℕ) (rules : List AlertingRule) → FileSaysRules bytes rules
    → AllByRecursion HasUtf8Texts rules
rules_texts bytes rules (short, d, is, says) =
    let groups = each_said SaysGroup HasText (AllByRecursion HasUtf8Texts) group_text says.items
    says.groups (items_in (codes "groups") d says.items (file_text bytes d is) says.is_array) says.each in
    subst (AllByRecursion HasUtf8Texts) (sym says.are)
    (AllByRecursion-each HasUtf8Texts (rules_of_groups says.groups) (λ r i.
    let g = in_joined (λ rs. rs) says.groups r i in
    AllByRecursion-at HasUtf8Texts g.0 r
    (AllByRecursion-at (AllByRecursion HasUtf8Texts) says.groups g.0 groups g.1) g.2))
