-- A value says alerts exactly if reading it finds no fault, and then it says the alerts that
-- reading gives.
use Rattle.std.proofs.Common.{List, Some, [], ap, length, refl, sym, ℕ, ◌∙◌, ◌∷◌, ◌≡◌}
use Rattle.std.specs.FinMap as finite
use Rattle.std.specs.List.{AllZip, fold}
use Rattle.std.specs.Prelude.{codes}
use Rattle.serde_json.specs.Data.{Data, object}
use Rattle.am_universe.specs.LabelSet.{LabelMap, with_value}
use Rattle.am_json.specs.Json.{member_list}
use Rattle.am_json.specs.Pointer.{to_field}
use Rattle.am_json.specs.Reading.{read_each}
use Rattle.am_list_files.specs.AlertsFile.{SaysAlert, SaysAlerts}
use Rattle.am_list_files.specs.AlertsForm.{alert_form, alert_labels_form, alerts_form}
use Rattle.am_list_files.specs.AlertsForm.{next_label_form}
use Rattle.am_list_files.specs.NamedText.{SaysNamedText}
use Rattle.am_list_files.specs.declared.limits.TheConstants.{MAX_ALERTS, MAX_ALERT_LABELS}
use Rattle.am_json.proofs.Deciding.{accept_decides, as_object_decides, behind_decides, count_decides}
use Rattle.am_json.proofs.Deciding.{field_decides, object_of, said_as, then_decides, within_decides}
use Rattle.am_json.proofs.Items.{or_null_decides}
use Rattle.am_json.proofs.Readings.{Decides}
use Rattle.am_list_files.proofs.NamedTextLemmas.{named_text_decides}

-- ---- The labels of an alert.

-- a member says a label; and a label set with the labels of these names and texts added
abbrev SaysLabel : List ℕ × Data → List ℕ × List ℕ → Type 0
SaysLabel pair label = SaysNamedText pair label.0 label.1

abbrev with_values : LabelMap → List (List ℕ × List ℕ) → LabelMap
with_values before texts = fold (λ s label. with_value s label.0 label.1) before texts

-- the labels that a member says, and those that members say, are added
abbrev IsAdded : LabelMap → List ℕ × Data → LabelMap → Type 0
IsAdded before pair s =
    (text : List ℕ) × SaysNamedText pair pair.0 text × (with_value before pair.0 text ≡ s)

record AreAdded (before : LabelMap) (pairs : List (List ℕ × Data)) (s : LabelMap) : Type 0 where
  texts : List (List ℕ × List ℕ)
  each : AllZip SaysLabel pairs texts
  labels : with_values before texts ≡ s

label_decides : (before : LabelMap) (pair : List ℕ × Data)
    → Decides (IsAdded before pair) ((next_label_form before pair).result)
unfolding next_label_form
label_decides before pair =
    then_decides (within_decides (to_field pair.0) (named_text_decides pair.0 pair.1))
    (λ text. accept_decides (with_value before pair.0 text))

none_added : (before s : LabelMap) (texts : List (List ℕ × List ℕ)) → AllZip SaysLabel [] texts
    → with_values before texts ≡ s → before ≡ s
none_added before s [] said is = is
none_added before s (label ∷ texts) said is = absurd said

first_added : (before s : LabelMap) (pair : List ℕ × Data) (pairs : List (List ℕ × Data))
    (texts : List (List ℕ × List ℕ)) → AllZip SaysLabel (pair ∷ pairs) texts
    → with_values before texts ≡ s
    → (next : LabelMap) × IsAdded before pair next × AreAdded next pairs s
first_added before s pair pairs [] said is = absurd said
first_added before s pair pairs (label ∷ texts) said is = (
  with_value before label.0 label.1,
  (
    label.1,
    (refl, said.0.1, said.0.2),
    ap (λ (name : List ℕ). with_value before name label.1) (sym said.0.0),
  ),
  record { texts = texts; each = said.1; labels = is },
)

labels_decide : (pairs : List (List ℕ × Data)) (before : LabelMap)
    → Decides (AreAdded before pairs) ((read_each next_label_form before pairs).result)
unfolding read_each
labels_decide [] before =
    said_as (accept_decides before) (λ s is. record { texts = []; each = tt; labels = is })
    (λ s said. none_added before s said.texts said.each said.labels)
labels_decide (pair ∷ pairs) before =
    said_as (then_decides (label_decides before pair) (λ next. labels_decide pairs next))
    (λ s (next, (text, said, is), rest). record {
      texts = (pair.0, text) ∷ rest.texts;
      each = (said, rest.each);
      labels = ap (λ (b : LabelMap). with_values b rest.texts) is ∙ rest.labels;
    })
    (λ s said. first_added before s pair pairs said.texts said.each said.labels)

-- ---- All alerts.

alert_decides : (d : Data) → Decides (SaysAlert d) ((alert_form d).result)
unfolding alert_form alert_labels_form
alert_decides d =
    behind_decides
    (λ s said. object_of (codes "labels") d (object said.members) said.has_labels)
    (said_as
    (field_decides alert_labels_form (codes "labels") d
    (λ v. then_decides (as_object_decides v)
    (λ members. then_decides (count_decides MAX_ALERT_LABELS (length (member_list members)))
    (λ _. labels_decide (member_list members) finite.empty))))
    (λ s (v, there, (members, is, (_, few, said))). record {
      members = members;
      has_labels = there ∙ ap (λ (x : Data). Some x) is;
      few = few;
      texts = said.texts;
      each = said.each;
      labels = sym said.labels;
    })
    (λ s said. (
      object said.members,
      said.has_labels,
      (
        said.members,
        refl,
        (
          tt,
          said.few,
          record { texts = said.texts; each = said.each; labels = sym said.labels },
        ),
      ),
    )))

pub alerts_decide : (d : Data) → Decides (SaysAlerts d) ((alerts_form d).result)
alerts_decide = or_null_decides SaysAlert alert_form alert_decides MAX_ALERTS
