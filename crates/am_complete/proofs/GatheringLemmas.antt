-- The labels that matchers ask about, and the position of each by its name, with one more matcher.
use Rattle.std.proofs.Common.{◌≡◌, ℕ, zero, suc, ◌<◌, Bool, true, false, cond, List, [], ◌∷◌, ◌++◌, length}
use Rattle.std.proofs.Common.{map, set, Some, None, refl, sym, ap, ◌∙◌, subst, inl, inr, arith, Bor}
use Rattle.std.proofs.Common.{bytes_eq, ◌↔◌, slice_get}
use Rattle.std.specs.Prelude.{Result, Ok, Err, OnOk, OnErr}
use Rattle.std.specs.BTreeMap.{BTreeMap}
use Rattle.std.specs.Map.{update}
use Rattle.std.specs.List.{list_any}
use Rattle.std.specs.Cmp.Lexicographic.{bytes_decides}
use Rattle.std.proofs.lemmas.Bool.{cases_Bool, both_ways, false_from_ne_true}
use Rattle.std.proofs.lemmas.List.{map-append, length-map}
use Rattle.std.proofs.lemmas.Option.{slice_get_within, slice_get-map, same_Some}
use Rattle.std.proofs.lemmas.Grind.{common_steps}
use Rattle.am_universe.specs.Text.{same_text}
use Rattle.am_labels.specs.Matcher.{Matcher}
use Rattle.am_labels.proofs.Passing.{any_in, in_any}
use Rattle.am_universe.proofs.ListLemmas.{IsIn-unmap}
use Rattle.am_universe.proofs.Members.{at_in, in_at}
use Rattle.am_complete.specs.declared.origin.Origin.{Origin}
use Rattle.am_complete.specs.AskedLabel.{AskedLabel, asked_names, with_matcher}
use Rattle.am_complete.specs.AskedLabel.{and_asked, with_asked}
use Rattle.am_complete.specs.Gathering.{position_in, IsIndexed}
use Rattle.am_complete.proofs.Pushed.{got_front, got_last, got_either}

-- ---- The name of the label at a position.

pub name_at : (labels : List AskedLabel) (i : ℕ) (l : AskedLabel) (name : List ℕ)
    → slice_get labels i ≡ Some l → l.name ≡ name → slice_get (asked_names labels) i ≡ Some name
name_at labels i l name at named = grind (arith, common_steps, slice_get-map)

-- a name that no label has is at no position
unnamed : (labels : List AskedLabel) (name : List ℕ)
    → list_any (λ l. same_text l.name name) labels ≡ false
    → (i : ℕ) → slice_get (asked_names labels) i ≡ Some name → ⊥
unnamed labels name none i at =
    let found = IsIn-unmap (λ l. l.name) labels name (in_at (asked_names labels) i name at) in
    both_ways (list_any (λ l. same_text l.name name) labels) none
    (in_any (λ l. same_text l.name name) labels found.0 found.1
    ((bytes_decides found.0.name name).1 found.2))

-- ---- A label that was not asked about before.

-- the map with the position of one more label
pub indexed_push : (before after : BTreeMap (Bor (List ℕ)) ℕ) (labels : List AskedLabel)
    (label : AskedLabel) (key : List ℕ) (n : ℕ) → IsIndexed before labels → label.name ≡ key
    → list_any (λ l. same_text l.name key) labels ≡ false → n ≡ length labels
    → ((q : List ℕ) → position_in after q ≡ update bytes_eq (position_in before) key (Some n) q)
    → IsIndexed after (labels ++ label ∷ [])
indexed_push before after labels label key n indexed named absent counted updates q i =
    let names = asked_names labels in
    let P : List (List ℕ) → Type 0 =
    λ ns. (position_in after q ≡ Some i ↔ (slice_get ns i ≡ Some q)) in
    let more : names ++ label.name ∷ [] ≡ asked_names (labels ++ label ∷ []) =
    sym (map-append (λ l. l.name) labels (label ∷ [])) in
    let long : length names ≡ n = length-map labels (λ l. l.name) ∙ sym counted in
    subst P more (elim (cases_Bool (bytes_eq key q)) [
      | inl same ↦
          let is : key ≡ q = (bytes_decides key q).0 same in
          let at : position_in after q ≡ Some n =
          updates q ∙ ap (λ b. cond b (Some n) (position_in before q)) same in
          let last : slice_get (names ++ label.name ∷ []) n ≡ Some q =
          subst (λ (k : ℕ). slice_get (names ++ label.name ∷ []) k ≡ Some q) long
          (got_last names label.name ∙ ap Some (named ∙ is)) in (
            λ h. let e : n ≡ i = cc in
                subst (λ (k : ℕ). slice_get (names ++ label.name ∷ []) k ≡ Some q) e last,
            λ h. elim (got_either names label.name q i h) [
              | inl a ↦
                  absurd (unnamed labels key absent i (a ∙ ap Some (sym is)))
              | inr b ↦ at ∙ ap Some (sym (b.0 ∙ long))
            ],
          )
      | inr other ↦
          let at : position_in after q ≡ position_in before q =
          updates q ∙ ap (λ b. cond b (Some n) (position_in before q)) other in (
            λ h. got_front names (label.name ∷ []) i q ((indexed q i).0 (sym at ∙ h)),
            λ h. elim (got_either names label.name q i h) [
              | inl a ↦ at ∙ (indexed q i).1 a
              | inr b ↦
                  let same = (bytes_decides key q).1 (sym named ∙ b.1) in absurd (cc)
            ],
          )
    ])

-- if the map has no position for a name, no label has the name
pub absent_label : (positions : BTreeMap (Bor (List ℕ)) ℕ) (labels : List AskedLabel)
    (name : List ℕ) → IsIndexed positions labels → position_in positions name ≡ None
    → list_any (λ l. same_text l.name name) labels ≡ false
absent_label positions labels name indexed absent =
    false_from_ne_true (list_any (λ l. same_text l.name name) labels) (λ some.
    let found = any_in (λ l. same_text l.name name) labels some in
    let at = at_in labels found.0 found.1 in
    let is = (bytes_decides found.0.name name).0 found.2 in
    let there = (indexed name at.0).1 (name_at labels at.0 found.0 name at.1 is) in cc)

-- ---- A label that was asked about before.

-- a label that replaces one with the same name
names_set : (labels : List AskedLabel) (i : ℕ) (l next : AskedLabel) → slice_get labels i ≡ Some l
    → next.name ≡ l.name → asked_names labels ≡ asked_names (set labels i next)
names_set [] i l next h same = absurd (cc)
names_set (x ∷ labels) zero l next h same = grind (arith, common_steps)
names_set (x ∷ labels) (suc i) l next h same =
    grind (arith, common_steps, names_set labels i l next h same)

none_gain : (m : Matcher) (labels : List AskedLabel)
    → ((j : ℕ) → slice_get (asked_names labels) j ≡ Some m.name → ⊥)
    → labels ≡ map (and_asked m) labels
none_gain m [] none = refl
none_gain m (x ∷ labels) none =
    let later = none_gain m labels (λ j h. none (suc j) h) in
    elim (cases_Bool (same_text x.name m.name)) [
      | inl same ↦ absurd (none 0 (ap Some ((bytes_decides x.name m.name).0 same)))
      | inr other ↦ rw other (ap (λ ls. x ∷ ls) later)
    ]

one_gains : (m : Matcher) (labels : List AskedLabel) (i : ℕ) (l : AskedLabel)
    → slice_get labels i ≡ Some l → l.name ≡ m.name
    → ((j : ℕ) → slice_get (asked_names labels) j ≡ Some m.name → j ≡ i)
    → set labels i (with_matcher m l) ≡ map (and_asked m) labels
one_gains m [] i l h named alone = absurd (cc)
one_gains m (x ∷ labels) zero l h named alone =
    let is : x ≡ l = cc in
    let same : same_text l.name m.name ≡ true = (bytes_decides l.name m.name).1 named in
    let later = none_gain m labels (λ j at. absurd (omega (arith, alone (suc j) at))) in
    rw (is, same) (ap (λ ls. with_matcher m l ∷ ls) later)
one_gains m (x ∷ labels) (suc i) l h named alone =
    let later = one_gains m labels i l h named (λ j at.
    let e = alone (suc j) at in omega (arith, e)) in
    elim (cases_Bool (same_text x.name m.name)) [
      | inl same ↦
          let e = alone 0 (ap Some ((bytes_decides x.name m.name).0 same)) in absurd (omega (arith, e))
      | inr other ↦ rw other (ap (λ ls. x ∷ ls) later)
    ]

-- if a label has the name, that label alone gets one more matcher
pub asked_again : (positions : BTreeMap (Bor (List ℕ)) ℕ) (labels : List AskedLabel)
    (origin : Origin) (m : Matcher) (i : ℕ) (l : AskedLabel) → IsIndexed positions labels
    → position_in positions m.name ≡ Some i → slice_get labels i ≡ Some l
    → set labels i (with_matcher m l) ≡ with_asked labels (origin, m)
asked_again positions labels origin m i l indexed at there =
    let name = same_Some l.name m.name
    (sym (name_at labels i l l.name there refl) ∙ (indexed m.name i).0 at) in
    let test : AskedLabel → Bool = λ x. same_text x.name m.name in
    let some : list_any test labels ≡ true =
    in_any test labels l (in_at labels i l there) ((bytes_decides l.name m.name).1 name) in
    one_gains m labels i l there name (λ j h.
    let other = (indexed m.name j).1 h in
    let same : Some j ≡ Some i = sym other ∙ at in cc)
    ∙ rw some refl

-- a label keeps its name, whether the matcher was added or memory was refused
pub with_matcher_name : (m : Matcher) (l : AskedLabel) → (with_matcher m l).name ≡ l.name
with_matcher_name m l = grind (arith, common_steps, cases_Bool)

pub name_kept : {T E : Type 0} (m : Matcher) (l next : AskedLabel) (r : Result T E)
    → OnOk r (next ≡ with_matcher m l) → OnErr r (next ≡ l) → next.name ≡ l.name
name_kept m l next (Ok x) added same = ap (λ k. k.name) added ∙ with_matcher_name m l
name_kept m l next (Err e) added same = ap (λ k. k.name) same

-- and the names keep their positions
pub indexed_again : (positions : BTreeMap (Bor (List ℕ)) ℕ) (labels : List AskedLabel)
    (i : ℕ) (l next : AskedLabel) → IsIndexed positions labels → slice_get labels i ≡ Some l
    → next.name ≡ l.name → IsIndexed positions (set labels i next)
indexed_again positions labels i l next indexed there same q j =
    grind (arith, common_steps, names_set)

-- each position in the map is the position of a label
pub within : (positions : BTreeMap (Bor (List ℕ)) ℕ) (labels : List AskedLabel) (name : List ℕ)
    (i : ℕ) → IsIndexed positions labels → position_in positions name ≡ Some i
    → i < length labels
within positions labels name i indexed at =
    omega (
      arith,
      slice_get_within (asked_names labels) i name ((indexed name i).0 at),
      length-map labels (λ (l : AskedLabel). l.name),
    )
