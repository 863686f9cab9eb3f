-- Why a label is not declared: if its name is new and not empty, and its texts are distinct, there
-- is no room.
use Rattle.std.proofs.Common.{◌≡◌, ◌≢◌, ◌<◌, ◌≤◌, ℕ, List, [], ◌∷◌, length, map, false, refl, sym}
use Rattle.std.proofs.Common.{ap, ◌∙◌, subst, arith, Some, None, Contains, length-append}
use Rattle.std.specs.Prelude.{unwrap_or, Option}
use Rattle.std.specs.List.{AllByRecursion, IsDistinct, list_any}
use Rattle.std.specs.Cmp.Lexicographic.{bytes_decides}
use Rattle.std.proofs.lemmas.Bool.{false_from_ne_true, cases_lt}
use Rattle.std.proofs.lemmas.List.{length-map, map-append}
use Rattle.std.proofs.lemmas.Grind.{common_steps}
use Rattle.am_universe.specs.declared.kind.Kind.TheVariants as kinds
use Rattle.am_universe.specs.declared.label_fault.LabelFault.{LabelFault}
use Rattle.am_universe.specs.declared.limits.TheConstants.{MAX_LABELS, MAX_VALUES}
use Rattle.am_universe.specs.Text.{same_text}
use Rattle.am_universe.specs.Universe.{Label, Values, IsLabel, IsUniverse, names}
use Rattle.am_universe.specs.Universe.{same_value, is_empty_text, any_label_fault, memory_fault}
use Rattle.am_universe.proofs.DistinctLists.{all_push, distinct_push}
use Rattle.am_universe.proofs.LabelFaultLemmas.{universe_was_added}
use Rattle.am_universe.proofs.ListLemmas.{Contains-from_IsIn}
use Rattle.am_labels.proofs.Passing.{any_in}
use Rattle.am_complete.specs.Covering.{IsFullFor}

-- ---- Values are distinct where their texts are, if none of them is the empty text.

same_tests : (v w : Option (List ℕ)) → is_empty_text v ≡ false → is_empty_text w ≡ false
    → same_value v w ≡ same_text (unwrap_or v []) (unwrap_or w [])
same_tests None None full whole = refl
same_tests None (Some []) full whole = absurd (cc)
same_tests None (Some (c ∷ cs)) full whole = refl
same_tests (Some []) w full whole = absurd (cc)
same_tests (Some (c ∷ cs)) None full whole = refl
same_tests (Some (c ∷ cs)) (Some y) full whole = refl

each_differs : (v : Option (List ℕ)) (vs : Values) → is_empty_text v ≡ false
    → AllByRecursion (λ w. is_empty_text w ≡ false) vs
    → AllByRecursion (λ w. same_value v w ≡ false) vs
    ≡ AllByRecursion (λ y. same_text (unwrap_or v []) y ≡ false) (map (λ w. unwrap_or w []) vs)
each_differs v [] full whole = refl
each_differs v (w ∷ vs) full whole =
    λ i. (same_tests v w full whole.0 i ≡ false) × each_differs v vs full whole.1 i

pub distinct_texts : (vs : Values) → AllByRecursion (λ w. is_empty_text w ≡ false) vs
    → IsDistinct same_value vs ≡ IsDistinct same_text (map (λ w. unwrap_or w []) vs)
unfolding IsDistinct
distinct_texts [] whole = refl
distinct_texts (v ∷ vs) whole =
    λ i. each_differs v vs whole.0 whole.1 i × distinct_texts vs whole.1 i

-- ---- A new name.

pub no_such_name : (ns : List (List ℕ)) (name : List ℕ) → (Contains ns name → ⊥)
    → list_any (λ n. same_text n name) ns ≡ false
no_such_name ns name fresh =
    grind (arith, common_steps, bytes_decides, false_from_ne_true, any_in, Contains-from_IsIn)

some_of : (texts : List (List ℕ)) → texts ≢ [] → 0 < length texts
some_of [] h = absurd (h refl)
some_of (t ∷ texts) h = omega arith

-- ---- No other fault.

fits : (u : List Label) (name : List ℕ) (values : Values) (texts : List (List ℕ)) → IsUniverse u
    → name ≢ [] → (Contains (names u) name → ⊥)
    → map (λ v. unwrap_or v []) values ≡ texts
    → AllByRecursion (λ v. is_empty_text v ≡ false) values → texts ≢ []
    → IsDistinct same_text texts → length u < MAX_LABELS → length texts ≤ MAX_VALUES
    → any_label_fault u (record { name = name; values = values }) ≡ None
fits u name values texts h named fresh are texts_of some distinct room few =
    let l : Label = record { name = name; values = values } in
    let long : length texts ≡ length values =
    ap (λ (xs : List (List ℕ)). length xs) (sym are) ∙ length-map values (λ v. unwrap_or v []) in
    let positive = some_of texts some in
    let label : IsLabel l = record {
      name = named;
      some_value = omega (arith, long, positive);
      at_most = omega (arith, long, few);
      texts = texts_of;
      distinct = rw (distinct_texts values texts_of, are) distinct;
    } in
    universe_was_added u l (record {
      at_most = omega (arith, length-append u (l ∷ []), room);
      labels = all_push IsLabel u l h.labels label;
      distinct = subst (IsDistinct same_text) (sym (map-append (λ (x : Label). x.name) u (l ∷ [])))
          (distinct_push same_text (names u) name h.distinct (no_such_name (names u) name fresh));
    })

pub full_otherwise : (u : List Label) (name : List ℕ) (values : Values) (texts : List (List ℕ))
    (fault : LabelFault) → IsUniverse u → map (λ v. unwrap_or v []) values ≡ texts
    → AllByRecursion (λ v. is_empty_text v ≡ false) values
    → fault ≡ unwrap_or (any_label_fault u (record { name = name; values = values })) memory_fault
    → fault.kind ≢ kinds.Memory
    → name ≢ [] → (Contains (names u) name → ⊥) → texts ≢ []
    → IsDistinct same_text texts → IsFullFor u texts
full_otherwise u name values texts fault h are texts_of first no_memory named fresh some distinct =
    grind (arith, common_steps, cases_lt, fits)
