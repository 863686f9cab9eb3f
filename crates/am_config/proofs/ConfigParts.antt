-- The parts of a configuration: reading a part gives exactly what the part says.
use Rattle.std.proofs.Common.{◌≡◌, ◌≢◌, ◌⊎◌, ℕ, ◌≤◌, List, [], ◌∷◌, ◌++◌, length, Bool, true, false}
use Rattle.std.proofs.Common.{cond, Option, Some, None, option_and_then, inl, inr, refl, sym, ap}
use Rattle.std.proofs.Common.{subst, ◌∙◌, append_assoc, append-nil, arith}
use Rattle.std.specs.Prelude.{codes}
use Rattle.std.specs.List.{AllZip, IsDistinct, position}
use Rattle.std.proofs.lemmas.Slice.Zip.{AllZip-long}
use borrow.Author.Tests.{ne_eqb}
use Rattle.serde_json.specs.Data.{Data, string}
use Rattle.am_universe.specs.declared.kind.Kind.TheVariants as kinds
use Rattle.am_universe.specs.Text.{same_text}
use Rattle.am_universe.proofs.DistinctLists.{distinct_none, distinct_push, distinct_pushed}
use Rattle.am_universe.proofs.DistinctLists.{distinct_front}
use Rattle.am_config.specs.declared.limits.TheConstants.{MAX_RECEIVERS}
use Rattle.am_json.specs.Json.{field, is_one_of, items_of}
use Rattle.am_json.specs.Pointer.{refusal_here, to_field}
use Rattle.am_json.specs.Reading.{refuse_for}
use Rattle.am_config.specs.ConfigFile.{SaysName, SaysReceiver}
use Rattle.am_config.specs.ConfigForm.{next_receiver_form, receiver_name_fault}
use Rattle.am_config.specs.ConfigForm.{receiver_names_form, receivers_form, receiver_named}
use Rattle.am_config.specs.ConfigForm.{effective_receiver, receiver_form}
use Rattle.am_json.proofs.Deciding.{as_object_decides, as_text_decides, cause_decides}
use Rattle.am_json.proofs.Deciding.{checked_decides, count_decides, found_decides, items_decide}
use Rattle.am_json.proofs.Deciding.{optional_decides, said_as, text_decides, then_decides}
use Rattle.am_json.proofs.Deciding.{within_decides}
use Rattle.am_json.proofs.Items.{AllFit, read_items_decide}
use Rattle.am_json.proofs.Readings.{Decides}

-- ---- The names of receivers.

-- a name is not among the earlier names
abbrev pub NameFits : List (List ℕ) → List ℕ → Type 0
NameFits before name = is_one_of name before ≡ false

names_distinct : (before more : List (List ℕ)) → IsDistinct same_text before
    → AllFit NameFits before more → IsDistinct same_text (before ++ more)
names_distinct before [] d fits = subst (IsDistinct same_text) (sym (append-nil before)) d
names_distinct before (name ∷ more) d fits =
    subst (IsDistinct same_text) (append_assoc before (name ∷ []) more)
    (names_distinct (before ++ name ∷ []) more
    (distinct_push same_text before name d fits.0) fits.1)

distinct_names : (before more : List (List ℕ)) → IsDistinct same_text (before ++ more)
    → AllFit NameFits before more
distinct_names before [] d = tt
distinct_names before (name ∷ more) d =
    let whole : IsDistinct same_text ((before ++ name ∷ []) ++ more) =
    subst (IsDistinct same_text) (sym (append_assoc before (name ∷ []) more)) d in
    let here =
    distinct_pushed same_text before name
    (distinct_front same_text (before ++ name ∷ []) more whole) in
    (here.1, distinct_names (before ++ name ∷ []) more whole)

free_or : (b : Bool) → cond b (Some kinds.Duplicate) None ≡ None → b ≡ false
free_or true h = absurd cc
free_or false h = refl

-- a name that is not empty is at fault exactly if it is taken
fault_of : (before : List (List ℕ)) (c : ℕ) (cs : List ℕ)
    → receiver_name_fault before (c ∷ cs)
    ≡ cond (is_one_of (c ∷ cs) before) (Some kinds.Duplicate) None
fault_of before c cs =
    ap (λ empty. cond empty (Some kinds.Empty)
    (cond (is_one_of (c ∷ cs) before) (Some kinds.Duplicate) None))
    (ne_eqb (length (c ∷ cs)) 0 (omega arith))

name_is_free : (before : List (List ℕ)) (name : List ℕ) → receiver_name_fault before name ≡ None
    → (name ≢ []) × NameFits before name
name_is_free before [] h = absurd cc
name_is_free before (c ∷ cs) h =
    (λ e. cc, free_or (is_one_of (c ∷ cs) before) (sym (fault_of before c cs) ∙ h))

free_name : (before : List (List ℕ)) (name : List ℕ) → name ≢ [] → NameFits before name
    → receiver_name_fault before name ≡ None
free_name before [] some fits = absurd (some refl)
free_name before (c ∷ cs) some fits = fault_of before c cs ∙ rw fits refl

free_decides : (before : List (List ℕ)) (name : List ℕ)
    → Decides (λ _. (name ≢ []) × NameFits before name)
    ((refuse_for (receiver_name_fault before name)).result)
free_decides before name =
    said_as (cause_decides (receiver_name_fault before name)) (λ _ none. name_is_free before name none)
    (λ _ free. free_name before name free.0 free.1)

name_decides : (before : List (List ℕ)) (d : Data)
    → Decides (λ name. SaysName d name × NameFits before name)
    ((next_receiver_form before d).result)
unfolding next_receiver_form
name_decides before d =
    said_as
    (then_decides (as_object_decides d)
    (λ _. checked_decides (text_decides (codes "name") d)
    (λ name. within_decides (to_field (codes "name")) (free_decides before name))))
    (λ name (members, is, (has, free)). ((members, is, has, free.0), free.1))
    (λ name (said, fits). (said.0, said.1, (said.2, (said.3, fits))))

-- an array of receivers
abbrev pub SaysNames : Data → List (List ℕ) → Type 0
SaysNames d names =
    (items : List Data) × (option_and_then items_of (field (codes "receivers") d) ≡ Some items)
    × AllZip SaysName items names × (length names ≤ MAX_RECEIVERS) × IsDistinct same_text names

pub names_decide : (d : Data) → Decides (SaysNames d) ((receivers_form d).result)
unfolding receivers_form receiver_names_form
names_decide d =
    said_as
    (then_decides (items_decide (codes "receivers") d)
    (λ items. within_decides (to_field (codes "receivers"))
    (then_decides (count_decides MAX_RECEIVERS (length items))
    (λ _. read_items_decide SaysName NameFits next_receiver_form name_decides items))))
    (λ names (items, is_array, (_, few, (said, fits))).
    let long = AllZip-long SaysName items names said in
    let distinct = names_distinct [] names (distinct_none same_text) fits in
    (items, is_array, said, omega arith, distinct))
    (λ names (items, is_array, said, few, distinct).
    let long = AllZip-long SaysName items names said in
    (items, is_array, (tt, omega arith, (said, distinct_names [] names distinct))))

-- ---- The receiver of a route.

-- the name in the field says a receiver; the empty name says that of the parent
abbrev IsNamed : List (List ℕ) → Option ℕ → List ℕ → ℕ → Type 0
IsNamed names parent name r =
    ((name ≡ []) × (parent ≡ Some r))
    ⊎ ((name ≢ []) × (position (λ other. same_text other name) names ≡ Some r))

named_decides : (names : List (List ℕ)) (parent : Option ℕ) (name : List ℕ)
    → Decides (IsNamed names parent name) ((receiver_named names parent name).result)
named_decides names parent [] =
    said_as (found_decides parent (refusal_here kinds.Shape)) (λ r is. inl (refl, is))
    (λ r. elim [ inl inherits ↦ inherits.1 | inr named ↦ absurd (named.0 refl) ])
named_decides names parent (c ∷ cs) =
    said_as
    (found_decides (position (λ other. same_text other (c ∷ cs)) names)
    (refusal_here kinds.UndefinedReceiver))
    (λ r is. inr (λ e. cc, is)) (λ r. elim [ inl inherits ↦ absurd cc | inr named ↦ named.1 ])

pub receiver_decides : (names : List (List ℕ)) (parent : Option ℕ) (d : Data)
    → Decides (SaysReceiver names parent d) ((receiver_form names parent d).result)
unfolding receiver_form
receiver_decides names parent d =
    within_decides (to_field (codes "receiver"))
    (said_as
    (optional_decides (λ found. (effective_receiver names parent found).result)
    (found_decides parent (refusal_here kinds.Shape))
    (λ v. then_decides (as_text_decides v) (named_decides names parent))
    (field (codes "receiver") d))
    (λ r. elim [
      | inl absent ↦ inr (record { unnamed = inl absent.0; inherited = absent.1 })
      | inr (v, there, (name, is, said)) ↦
          let named : field (codes "receiver") d ≡ Some (string name) =
          there ∙ ap (λ (x : Data). Some x) is in
          elim said [
            | inl empty ↦ inr (record {
              unnamed = inr (named ∙ ap (λ n. Some (string n)) empty.0);
              inherited = empty.1;
            })
            | inr some ↦
                inl (record { name = name; named = named; some = some.0; declared = some.1 })
          ]
    ])
    (λ r. elim [
      | inl said ↦
          inr (string said.name, said.named, (said.name, refl, inr (said.some, said.declared)))
      | inr said ↦ elim said.unnamed [
        | inl absent ↦ inl (absent, said.inherited)
        | inr empty ↦ inr (string [], empty, ([], refl, inl (refl, said.inherited)))
      ]
    ]))
