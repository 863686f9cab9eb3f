-- The texts of the labels that are fixed are UTF-8.
use Rattle.std.proofs.Common.{◌||◌, ◌++◌, ℕ, Bool, true, false, cond, List, [], ◌∷◌, fold, IsUtf8}
use Rattle.std.specs.List.{AllByRecursion, list_any}
use Rattle.am_universe.specs.Text.{same_text}
use Rattle.am_universe.proofs.DistinctLists.{all_push}
use Rattle.am_alerting_rules.specs.RulesFile.{AlertingRule}
use Rattle.am_alerting_rules.specs.RuleAlerts.{fixed_labels, is_template, with_fixed}
use Rattle.am_alerting_rules.specs.RuleTexts.{HasUtf8Texts}

abbrev AreUtf8 : List (List ℕ × List ℕ) → Type 0
AreUtf8 labels = AllByRecursion (λ l. IsUtf8 l.1) labels

utf8_if : (before : List (List ℕ × List ℕ)) (label : List ℕ × List ℕ) (left_out : Bool)
    → IsUtf8 label.1 → AreUtf8 before → AreUtf8 (cond left_out before (before ++ label ∷ []))
utf8_if before label true text all = all
utf8_if before label false text all = all_push (λ l. IsUtf8 l.1) before label all text

utf8_with : (labels before : List (List ℕ × List ℕ)) → AreUtf8 labels → AreUtf8 before
    → AreUtf8 (fold with_fixed before labels)
utf8_with [] before all first = first
utf8_with (label ∷ labels) before all first =
    utf8_with labels (with_fixed before label) all.1
    (utf8_if before label (is_template label.1 || list_any (λ l. same_text l.0 label.0) before) all.0
    first)

pub fixed_utf8 : (r : AlertingRule) → HasUtf8Texts r → AreUtf8 (fixed_labels r)
fixed_utf8 r texts = utf8_with r.labels _ texts.labels (texts.name, tt)
