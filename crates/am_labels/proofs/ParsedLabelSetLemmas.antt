-- The values in the label set of a list.
use Rattle.std.proofs.Common.{◌≡◌, ℕ, true, false, cond, List, [], ◌∷◌, map, Bool, Option}
use Rattle.std.proofs.Common.{Some, None, unwrap_or, Contains, ap, ◌∙◌, refl, subst, inl, inr}
use Rattle.std.specs.Prelude.{fold}
use Rattle.std.specs.Ordering.{nat_cmp}
use Rattle.std.specs.Cmp.Lexicographic.{slice_cmp, bytes_decides}
use Rattle.std.specs.List.{list_any}
use Rattle.std.specs.FinMap.{get, get-empty}
use Rattle.std.specs.FinMap as finite
use Rattle.std.proofs.lemmas.Bool.{cases_Bool, or_parts}
use Rattle.am_universe.specs.Text.{same_text}
use Rattle.am_universe.specs.LabelSet.{LabelMap, value_of, with_value}
use Rattle.am_universe.proofs.LabelMapLemmas.{removed_at, inserted_at}
use Rattle.am_universe.proofs.ListLemmas.{IsIn, IsIn-from_Contains, Contains-from_IsIn}
use Rattle.am_universe.proofs.LabelSetLemmas.{same_text-itself}
use Rattle.am_labels.specs.Matcher.{Matcher}
use Rattle.am_labels.specs.ParsedLabelSet.{repeats_name, set_of_list}

removed_value : (b : Bool) (found : Option (List ℕ))
    → unwrap_or (cond b None found) [] ≡ cond b [] (unwrap_or found [])
removed_value true found = refl
removed_value false found = refl

inserted_value : (b : Bool) (v : List ℕ) (found : Option (List ℕ))
    → unwrap_or (cond b (Some v) found) [] ≡ cond b v (unwrap_or found [])
inserted_value true v found = refl
inserted_value false v found = refl

-- Setting one value: its name has it, and the other values stay.
pub value_of-with_value : (s : LabelMap) (k v q : List ℕ)
    → value_of (with_value s k v) q ≡ cond (same_text k q) v (value_of s q)
value_of-with_value s k [] q =
    ap (λ o. unwrap_or o []) (removed_at s k q) ∙ removed_value (same_text k q) (get s q)
value_of-with_value s k (c ∷ cs) q =
    ap (λ o. unwrap_or o []) (inserted_at s k (c ∷ cs) q)
    ∙ inserted_value (same_text k q) (c ∷ cs) (get s q)

-- The set after the values of a list are set, one after the other.
abbrev set_from : LabelMap → List Matcher → LabelMap
set_from s ms = fold (λ s m. with_value s m.name m.value) s ms

abbrev has_name : List Matcher → List ℕ → Bool
has_name ms name = list_any (λ other. same_text other.name name) ms

kept : (ms : List Matcher) (s : LabelMap) (name : List ℕ) → has_name ms name ≡ false
    → value_of (set_from s ms) name ≡ value_of s name
kept [] s name h = refl
kept (m ∷ ms) s name h =
    let parts = or_parts (same_text m.name name) (has_name ms name) h in
    kept ms (with_value s m.name m.value) name parts.1 ∙ value_of-with_value s m.name m.value name
    ∙ ap (λ b. cond b m.value (value_of s name)) parts.0

listed : (ms : List Matcher) (s : LabelMap) (m : Matcher) → repeats_name ms ≡ false → IsIn ms m
    → value_of (set_from s ms) m.name ≡ m.value
listed [] s m h i = absurd i
listed (first ∷ ms) s m h (inl e) =
    let parts = or_parts (has_name ms first.name) (repeats_name ms) h in
    subst (λ (x : Matcher). value_of (set_from s (first ∷ ms)) x.name ≡ x.value) e
    (kept ms (with_value s first.name first.value) first.name parts.0
    ∙ value_of-with_value s first.name first.value first.name
    ∙ ap (λ b. cond b first.value (value_of s first.name)) (same_text-itself first.name))
listed (first ∷ ms) s m h (inr i) =
    listed ms (with_value s first.name first.value) m
    (or_parts (has_name ms first.name) (repeats_name ms) h).1 i

unnamed : (ms : List Matcher) (name : List ℕ)
    → (IsIn (map (λ (m : Matcher). m.name) ms) name → ⊥) → has_name ms name ≡ false
unnamed [] name h = refl
unnamed (m ∷ ms) name h = elim (cases_Bool (same_text m.name name)) [
  | inl t ↦ absurd (h (inl ((bytes_decides m.name name).0 t)))
  | inr f ↦ rw f (unnamed ms name (λ i. h (inr i)))
]

pub value_of_listed : (ms : List Matcher) (m : Matcher) → repeats_name ms ≡ false
    → Contains ms m → value_of (set_of_list ms) m.name ≡ m.value
value_of_listed ms m h c = listed ms finite.empty m h (IsIn-from_Contains ms m c)

pub value_of_unlisted : (ms : List Matcher) (name : List ℕ)
    → (Contains (map (λ (m : Matcher). m.name) ms) name → ⊥) → value_of (set_of_list ms) name ≡ []
value_of_unlisted ms name h =
    kept ms finite.empty name
    (unnamed ms name (λ i. h (Contains-from_IsIn (map (λ (m : Matcher). m.name) ms) name i)))
    ∙ ap (λ o. unwrap_or o []) (get-empty (slice_cmp nat_cmp) name)
