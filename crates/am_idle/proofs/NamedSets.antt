-- Label sets that have an alertname, and a label set with one label.
use Rattle.std.proofs.Common.{◌≡◌, ◌≢◌, ℕ, Bool, true, false, not, cond, List, [], ◌∷◌, refl}
use Rattle.std.proofs.Common.{Some, None, sym, ap, ◌∙◌, subst}
use Rattle.std.specs.Prelude.{◌&&◌, IsTrue, codes, unwrap_or}
use Rattle.std.specs.Cmp.Lexicographic.{slice_cmp, bytes_decides}
use Rattle.std.specs.FinMap.{get, empty, get-empty}
use Rattle.std.specs.Ordering.{nat_cmp}
use Rattle.std.proofs.lemmas.Option.{same_Some}
use Rattle.am_universe.specs.Text.{same_text}
use Rattle.am_universe.specs.LabelSet.{LabelMap, value_of, with_value}
use Rattle.am_universe.proofs.LabelMapLemmas.{inserted_at, with_text}
use Rattle.am_universe.proofs.LabelSetLemmas.{same_text-itself}
use Rattle.am_labels.specs.Matcher.{all_hold}
use Rattle.am_labels.specs.Space.{Space}
use Rattle.am_classes.specs.declared.alphabet.Alphabet.{Alphabet}
use Rattle.am_classes.specs.declared.alphabet.Alphabet.TheVariants.{Unicode, Ascii}
use Rattle.am_classes.specs.Alphabet.{IsOver}
use Rattle.am_every_alert.specs.EveryAlert.{IsAlert, IsAlertOf}
use Rattle.am_every_alert.proofs.OverAscii.{alert_of_space_over_unicode}
use Rattle.am_idle.specs.NamedAlerts.{HasAlertname, IsNamedAlert, named_matchers}

-- ---- An alertname.

has_text : (v : List ℕ) → v ≢ [] → (not (same_text v []) && true) ≡ true
has_text [] some = absurd (some refl)
has_text (c ∷ cs) some = refl

text_there : (v : List ℕ) → (not (same_text v []) && true) ≡ true → v ≢ []
text_there [] is = absurd (cc)
text_there (c ∷ cs) is = λ e. cc

-- the matcher `alertname!=""` matches a label set exactly if it has an alertname
pub named_if : (set : LabelMap) → HasAlertname set → IsTrue (all_hold set named_matchers)
named_if set = has_text (value_of set (codes "alertname"))

pub named_then : (set : LabelMap) → IsTrue (all_hold set named_matchers) → HasAlertname set
named_then set = text_there (value_of set (codes "alertname"))

-- an alert with an alertname counts over each alphabet
pub named_counts : (a : Alphabet) (s : Space) (alert : LabelMap) → IsNamedAlert s alert
    → IsAlertOf a s alert
named_counts Unicode s alert is = alert_of_space_over_unicode s alert is.0
named_counts Ascii s alert is = is.0

-- ---- A label set with one label.

abbrev pub one_label : List ℕ → List ℕ → LabelMap
one_label name text = with_value empty name text

value_there : (name text other : List ℕ) → text ≢ []
    → get (one_label name text) other ≡ cond (same_text name other) (Some text) None
value_there name text other some =
    ap (λ (s : LabelMap). get s other) (with_text empty name text some)
    ∙ inserted_at empty name text other
    ∙ ap (cond (same_text name other) (Some text)) (get-empty (slice_cmp nat_cmp) other)

-- it may be an alert, if the label has a name, and its text is over the alphabet
pub one_label_alert : (a : Alphabet) (name text : List ℕ) → name ≢ [] → text ≢ [] → IsOver a text
    → IsAlert a (one_label name text)
one_label_alert a name text named some over other value there =
    by (same_text name other) refl (sym (value_there name text other some) ∙ there)
  where
    by : (b : Bool) → same_text name other ≡ b → cond b (Some text) None ≡ Some value
        → (other ≢ []) × IsOver a value
    by true same is = (
      λ unnamed. named ((bytes_decides name other).0 same ∙ unnamed),
      subst (IsOver a) (same_Some text value is) over,
    )
    by false apart is = absurd (cc)

-- the label has the text
pub one_label_text : (name text : List ℕ) → text ≢ [] → value_of (one_label name text) name ≡ text
one_label_text name text some =
    ap (λ o. unwrap_or o []) (value_there name text name some)
    ∙ ap (λ b. unwrap_or (cond b (Some text) None) []) (same_text-itself name)
