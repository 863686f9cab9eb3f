-- The labels that the alerts of a rule have for certain: their names are distinct, and none is
-- empty.
use Rattle.std.proofs.Common.{◌≡◌, ◌≢◌, ◌++◌, ◌||◌, Bool, List, [], cond, false, map, subst, sym}
use Rattle.std.proofs.Common.{refl, true, ℕ, ◌∙◌, ◌∷◌}
use Rattle.std.specs.List.{AllByRecursion, IsDistinct, list_any}
use Rattle.std.specs.Prelude.{fold}
use Rattle.std.proofs.lemmas.List.{map-append}
use Rattle.am_universe.specs.Text.{same_text}
use Rattle.am_universe.proofs.DistinctLists.{all_push, distinct_none, distinct_push}
use Rattle.am_universe.proofs.UniverseLemmas.{list_any-map}
use Rattle.am_alerting_rules.specs.RulesFile.{AlertingRule, HasNames}
use Rattle.am_alerting_rules.specs.RuleAlerts.{alert_name, fixed_labels, is_template, with_fixed}

abbrev pub Labels : Type 0
Labels = List (List ℕ × List ℕ)

-- the names of labels are distinct, or none is empty
abbrev AreDistinct : Labels → Type 0
AreDistinct labels = IsDistinct same_text (map (λ l. l.0) labels)

abbrev AreNamed : Labels → Type 0
AreNamed labels = AllByRecursion (λ l. l.0 ≢ []) labels

-- ---- With one more label.

distinct_if : (before : Labels) (label : List ℕ × List ℕ) (template there : Bool)
    → list_any (λ l. same_text l.0 label.0) before ≡ there → AreDistinct before
    → AreDistinct (cond (template || there) before (before ++ label ∷ []))
distinct_if before label true there is distinct = distinct
distinct_if before label false true is distinct = distinct
distinct_if before label false false is distinct =
    subst (IsDistinct same_text) (sym (map-append (λ l. l.0) before (label ∷ [])))
    (distinct_push same_text (map (λ l. l.0) before) label.0 distinct
    (list_any-map (λ name. same_text name label.0) (λ l. l.0) before ∙ is))

named_if : (before : Labels) (label : List ℕ × List ℕ) (left_out : Bool) → label.0 ≢ []
    → AreNamed before → AreNamed (cond left_out before (before ++ label ∷ []))
named_if before label true some named = named
named_if before label false some named = all_push (λ l. l.0 ≢ []) before label named some

-- ---- With all labels.

distinct_with : (labels before : Labels) → AreDistinct before
    → AreDistinct (fold with_fixed before labels)
distinct_with [] before distinct = distinct
distinct_with (label ∷ labels) before distinct =
    distinct_with labels (with_fixed before label)
    (distinct_if before label (is_template label.1) (list_any (λ l. same_text l.0 label.0) before)
    refl distinct)

named_with : (labels before : Labels) → AreNamed labels → AreNamed before
    → AreNamed (fold with_fixed before labels)
named_with [] before all named = named
named_with (label ∷ labels) before all named =
    named_with labels (with_fixed before label) all.1
    (named_if before label
    (is_template label.1 || list_any (λ l. same_text l.0 label.0) before) all.0 named)

pub fixed_distinct : (r : AlertingRule)
    → IsDistinct same_text (map (λ l. l.0) (fixed_labels r))
fixed_distinct r =
    distinct_with r.labels ((alert_name, r.name) ∷ [])
    (distinct_push same_text [] alert_name (distinct_none same_text) refl)

pub fixed_named : (r : AlertingRule) → HasNames r
    → AllByRecursion (λ l. l.0 ≢ []) (fixed_labels r)
fixed_named r has = named_with r.labels ((alert_name, r.name) ∷ []) has.labels ((λ e. cc), tt)
