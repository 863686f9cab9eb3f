-- A value says a space exactly if reading it finds no fault, and then it says the space that
-- reading gives.
use Rattle.std.proofs.Common.{◌≡◌, ℕ, ◌<◌, ◌≤◌, List, [], ◌∷◌, ◌++◌, length}
use Rattle.std.proofs.Common.{Option, Some, None, option_and_then, Ok, refl}
use Rattle.std.proofs.Common.{sym, ap}
use Rattle.std.proofs.Common.{subst, ◌∙◌, append_assoc, append-nil, length-append, arith}
use Rattle.std.specs.Prelude.{codes, IsTrue}
use Rattle.std.specs.List.{AllZip, IsDistinct}
use Rattle.std.proofs.lemmas.List.{map-append}
use Rattle.std.proofs.lemmas.Slice.Zip.{AllZip-long}
use borrow.Author.Tests.{lt-leb}
use Rattle.serde_json.specs.Data.{Data, null}
use Rattle.am_universe.specs.Text.{same_text}
use Rattle.am_universe.specs.declared.label_fault.LabelPart.TheVariants as parts
use Rattle.am_universe.specs.declared.limits.TheConstants.{MAX_LABELS}
use Rattle.am_universe.specs.Universe.{Values, Label, IsLabel, IsUniverse, names}
use Rattle.am_universe.specs.Universe.{name_fault, count_fault, value_fault, values_fault}
use Rattle.am_universe.specs.Universe.{label_values_fault, label_fault, any_label_fault, fault_at}
use Rattle.am_universe.specs.Universe.{HaveLabelNames, is_label_name}
use Rattle.am_universe.proofs.DistinctLists.{all_front, distinct_front}
use Rattle.am_universe.proofs.UniverseLemmas.{IsUniverse-empty}
use Rattle.am_universe.proofs.LabelFaultLemmas.{no_first, nothing_at, added_is_universe}
use Rattle.am_universe.proofs.LabelFaultLemmas.{universe_was_added, no_part_at_fault, name_fine}
use Rattle.am_universe.proofs.LabelFaultLemmas.{named_fine, fine_named}
use Rattle.am_labels.specs.declared.limits.TheConstants.{MAX_IMPOSSIBLE}
use Rattle.am_labels.specs.Space.{Space}
use Rattle.am_json.specs.Json.{field, items_of}
use Rattle.am_json.specs.Pointer.{to_field, to_item}
use Rattle.am_json.specs.Reading.{◌>>=◌, accept, reading_within}
use Rattle.am_json.specs.Reading.{as_text}
use Rattle.am_list_files.specs.UniverseFile.{file_fields, label_fields, SaysValue, SaysLabel}
use Rattle.am_list_files.specs.UniverseFile.{SaysImpossible, SaysUniverse}
use Rattle.am_list_files.specs.UniverseForm.{value_form, next_value_form, values_form}
use Rattle.am_list_files.specs.UniverseForm.{next_label_form, labels_form, all_labels_form}
use Rattle.am_list_files.specs.UniverseForm.{impossible_form}
use Rattle.am_list_files.specs.UniverseForm.{universe_form}
use Rattle.am_json.proofs.Deciding.{accept_decides, as_text_decides, cause_decides}
use Rattle.am_json.proofs.Deciding.{checked_decides, count_decides, items_decide}
use Rattle.am_json.proofs.Deciding.{only_fields_decide, said_as, text_decides, then_decides}
use Rattle.am_json.proofs.Deciding.{within_decides}
use Rattle.am_json.proofs.Items.{AllFit, optional_array_decides, read_items_decide}
use Rattle.am_json.proofs.Readings.{Decides, bind_ok, same_read, within_ok}
use Rattle.am_list_files.proofs.MatcherTexts.{spelled_decides}

-- ---- A value.

-- a value may follow the values before it
abbrev ValueFits : Values → Option (List ℕ) → Type 0
ValueFits before value = value_fault before value ≡ None

some_text_says : (d : Data) (value : Option (List ℕ))
    → (as_text d >>= λ text. accept (Some text)).result ≡ Ok value → SaysValue d value
some_text_says d value h =
    let text = bind_ok ((as_text d).result) (λ t. Ok (Some t)) value h in
    subst (λ (v : Option (List ℕ)). SaysValue d v) (same_read (Some text.0) value text.2)
    ((as_text_decides d).says text.0 text.1)

read_value_says : (d : Data) (value : Option (List ℕ)) → (value_form d).result ≡ Ok value
    → SaysValue d value
read_value_says null None h = refl
read_value_says null (Some t) h = absurd cc
read_value_says d value h = some_text_says d value h

read_value_reads : (d : Data) (value : Option (List ℕ)) → SaysValue d value
    → (value_form d).result ≡ Ok value
read_value_reads d None said = rw said refl
read_value_reads d (Some t) said = rw said refl

read_value_decides : (d : Data) → Decides (SaysValue d) ((value_form d).result)
read_value_decides d = record { says = read_value_says d; reads = read_value_reads d }

value_decides : (before : Values) (d : Data)
    → Decides (λ value. SaysValue d value × ValueFits before value)
    ((next_value_form before d).result)
unfolding next_value_form
value_decides before d =
    checked_decides (read_value_decides d) (λ value. cause_decides (value_fault before value))

-- ---- The values of a label.

fit_none : (before values : Values) → AllFit ValueFits before values
    → values_fault before values ≡ None
fit_none before [] fits = refl
fit_none before (value ∷ values) fits =
    rw (fits.0, fit_none (before ++ value ∷ []) values fits.1) refl

none_fit : (before values : Values) → values_fault before values ≡ None
    → AllFit ValueFits before values
none_fit before [] h = tt
none_fit before (value ∷ values) h =
    let split =
    no_first (fault_at (parts.Value (length before)) (value_fault before value))
    (values_fault (before ++ value ∷ []) values) h in (
      nothing_at (parts.Value (length before)) (value_fault before value) split.0,
      none_fit (before ++ value ∷ []) values split.1,
    )

values_decide : (items : List Data)
    → Decides (λ values. AllZip SaysValue items values × (label_values_fault values ≡ None))
    ((values_form items).result)
unfolding values_form
values_decide items =
    said_as
    (then_decides (cause_decides (count_fault (length items)))
    (λ _. read_items_decide SaysValue ValueFits next_value_form value_decides items))
    (λ values (_, none, (said, fits)).
    let few : count_fault (length values) ≡ None =
    ap count_fault (AllZip-long SaysValue items values said) ∙ none in
    (said, rw (few, fit_none [] values fits) refl))
    (λ values (said, fine).
    let split =
    no_first (fault_at parts.Values (count_fault (length values)))
    (values_fault [] values) fine in
    let few : count_fault (length items) ≡ None =
    ap count_fault (sym (AllZip-long SaysValue items values said))
    ∙ nothing_at parts.Values (count_fault (length values)) split.0 in
    (tt, few, (said, none_fit [] values split.1)))

-- ---- A label.

-- a label may follow the labels before it, whatever their number
pub record LabelFits (before : List Label) (label : Label) : Type 0 where
  pub name : name_fault before label.name ≡ None
  pub values : label_values_fault label.values ≡ None

label_decides : (before : List Label) (d : Data)
    → Decides (λ label. SaysLabel d label × LabelFits before label)
    ((next_label_form before d).result)
unfolding next_label_form
label_decides before d =
    said_as
    (then_decides (only_fields_decide label_fields d)
    (λ _. then_decides (text_decides (codes "name") d)
    (λ name. then_decides
    (within_decides (to_field (codes "name")) (cause_decides (name_fault before name)))
    (λ _. then_decides (items_decide (codes "values") d)
    (λ items. then_decides (within_decides (to_field (codes "values")) (values_decide items))
    (λ values. accept_decides (record { name = name; values = values })))))))
    (λ label (_, only, (name, named, (_, free, (items, is_array, (values, said, is))))).
    subst (λ (l : Label). SaysLabel d l × LabelFits before l) is (
      record { only = only; name = named; items = items; is_array = is_array; values = said.0 },
      record { name = free; values = said.1 },
    ))
    (λ label (said, fits). (
      tt,
      said.only,
      (
        label.name,
        said.name,
        (
          tt,
          fits.name,
          (said.items, said.is_array, (label.values, (said.values, fits.values), refl)),
        ),
      ),
    ))

-- ---- All labels.

no_label_fault : (u : List Label) (label : Label) → length u < MAX_LABELS → LabelFits u label
    → label_fault u label ≡ None
no_label_fault u label room fits =
    rw (lt-leb MAX_LABELS (length u) room, fits.name, fits.values) refl

-- a label that was read has no fault, if there is room for it
pub no_fault_read : (u : List Label) (d : Data) (label : Label) → length u < MAX_LABELS
    → (reading_within (to_item (length u)) (next_label_form u d)).result ≡ Ok label
    → label_fault u label ≡ None
no_fault_read u d label room h =
    no_label_fault u label room
    ((label_decides u d).says label
    (within_ok (to_item (length u)) ((next_label_form u d).result) label h)).1

label_fits : (u : List Label) (label : Label) → any_label_fault u label ≡ None
    → IsTrue (is_label_name label.name) → LabelFits u label
label_fits u label h named =
    let parts =
    no_part_at_fault (name_fault u label.name) u label.values (fine_named u label h named) in
    record { name = parts.1; values = parts.2 }

-- a prefix of the labels of a universe is a universe too
universe_front : (before more : List Label) → IsUniverse (before ++ more) → IsUniverse before
universe_front before more is = record {
  at_most = omega (arith, length-append before more, is.at_most);
  labels = all_front IsLabel before more is.labels;
  distinct =
      distinct_front same_text (names before) (names more)
      (subst (IsDistinct same_text) (map-append (λ (l : Label). l.name) before more)
      is.distinct);
}

universe_fits : (before more : List Label) → IsUniverse (before ++ more) → HaveLabelNames more
    → AllFit LabelFits before more
universe_fits before [] is named = tt
universe_fits before (label ∷ more) is named =
    let whole : IsUniverse ((before ++ label ∷ []) ++ more) =
    subst IsUniverse (sym (append_assoc before (label ∷ []) more)) is in (
      label_fits before label (universe_was_added before label
          (universe_front (before ++ label ∷ []) more whole)) named.0,
      universe_fits (before ++ label ∷ []) more whole named.1,
    )

-- labels that fit have label names
fit_named : (before more : List Label) → AllFit LabelFits before more → HaveLabelNames more
fit_named before [] fits = tt
fit_named before (label ∷ more) fits =
    ((name_fine before label.name fits.0.name).0, fit_named (before ++ label ∷ []) more fits.1)

-- a universe and labels that fit after it are a universe, if there is room for them
grown : (before more : List Label) → IsUniverse before → AllFit LabelFits before more
    → length (before ++ more) ≤ MAX_LABELS → IsUniverse (before ++ more)
grown before [] is fits few = subst IsUniverse (sym (append-nil before)) is
grown before (label ∷ more) is fits few =
    let room : length before < MAX_LABELS =
    omega (arith, length-append before (label ∷ more), few) in
    let fine = (named_fine before label (no_label_fault before label room fits.0)).0 in
    let next = added_is_universe before label is fine in
    let few_next : length ((before ++ label ∷ []) ++ more) ≤ MAX_LABELS =
    rw (append_assoc before (label ∷ []) more) few in
    subst IsUniverse (append_assoc before (label ∷ []) more)
    (grown (before ++ label ∷ []) more next fits.1 few_next)

-- an array of labels, which are a universe of label names
abbrev SaysLabels : Data → List Label → Type 0
SaysLabels d u =
    (items : List Data) × (option_and_then items_of (field (codes "labels") d) ≡ Some items)
    × AllZip SaysLabel items u × (IsUniverse u × HaveLabelNames u)

labels_decide : (d : Data) → Decides (SaysLabels d) ((all_labels_form d).result)
unfolding all_labels_form labels_form
labels_decide d =
    said_as
    (then_decides (items_decide (codes "labels") d)
    (λ items. within_decides (to_field (codes "labels"))
    (then_decides (count_decides MAX_LABELS (length items))
    (λ _. read_items_decide SaysLabel LabelFits next_label_form label_decides items))))
    (λ u (items, is_array, (_, few, (said, fits))).
    let long = AllZip-long SaysLabel items u said in
    let is = grown [] u IsUniverse-empty fits (omega arith) in
    (items, is_array, said, (is, fit_named [] u fits)))
    (λ u (items, is_array, said, (is, named)).
    let long = AllZip-long SaysLabel items u said in
    (items, is_array, (tt, omega (arith, is.at_most), (said, universe_fits [] u is named))))

-- ---- The lists that are impossible.

list_decides : (d : Data) → Decides (SaysImpossible d) ((impossible_form d).result)
unfolding impossible_form
list_decides d =
    said_as (then_decides (as_text_decides d) (λ text. spelled_decides [] [] text))
    (λ ms (text, is_text, (spells, few, valid)). record {
      text = (text, is_text, spells);
      few = few;
      valid_patterns = valid;
    })
    (λ ms said.
    (said.text.0, said.text.1, (said.text.2, said.few, said.valid_patterns)))

-- ---- The file.

pub universe_decides : (d : Data) → Decides (SaysUniverse d) ((universe_form d).result)
unfolding universe_form
universe_decides d =
    said_as
    (then_decides (only_fields_decide file_fields d)
    (λ _. then_decides (labels_decide d)
    (λ labels. then_decides
    (optional_array_decides SaysImpossible impossible_form list_decides MAX_IMPOSSIBLE
    (codes "impossible") d)
    (λ lists. accept_decides (record { labels = labels; impossible = lists })))))
    (λ s (_, only, (labels, (items, is_array, said, universe), (lists, listed, is))).
    subst (λ (found : Space). SaysUniverse d found) is (record {
      only = only;
      items = items;
      is_array = is_array;
      labels = said;
      is_universe = universe.0;
      named = universe.1;
      impossible = listed;
    }))
    (λ s said. (
      tt,
      said.only,
      (
        s.labels,
        (said.items, said.is_array, said.labels, (said.is_universe, said.named)),
        (s.impossible, said.impossible, refl),
      ),
    ))
