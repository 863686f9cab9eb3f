-- The first item with each key: it is one of the items, each item has its key among the first, and
-- no two of the first have the same key.
use Rattle.std.proofs.Common.{◌≡◌, ◌⊎◌, Bool, true, false, List, [], ◌∷◌, ◌++◌, map, fold, refl, arith}
use Rattle.std.proofs.Common.{sym, ap, ◌∙◌, inl, inr}
use Rattle.std.specs.Prelude.{if◌then◌else◌}
use Rattle.std.specs.List.{list_any, IsDistinct}
use Rattle.std.proofs.lemmas.Bool.{cases_Bool, or_parts}
use Rattle.std.proofs.lemmas.List.{map-append}
use Rattle.std.proofs.lemmas.Grind.{common_steps}
use Rattle.am_universe.proofs.DistinctLists.{distinct_none, distinct_push}
use Rattle.am_universe.proofs.ListLemmas.{IsIn, IsIn-left, IsIn-right, IsIn-split}
use Rattle.am_labels.proofs.Passing.{any_in}
use Rattle.am_outcomes.specs.Outcomes.{with_first, firsts}

-- a test that decides whether two keys are the same
abbrev pub Decides : {K : Type 0} → (K → K → Bool) → Type 0
Decides {K = K} same = (x y : K) → (same x y ≡ true → x ≡ y) × (x ≡ y → same x y ≡ true)

flipped : {K : Type 0} (same : K → K → Bool) → Decides same → (x y : K) → same x y ≡ false
    → same y x ≡ false
flipped same decides x y apart = grind (arith, common_steps, cases_Bool)

module _ {K A : Type 0} (same : K → K → Bool) where
  abbrev has_key : List (K × A) → K → Bool
  has_key found key = list_any (λ e. same key e.0) found

  -- the items with one more, unless its key is there
  abbrev more_if : Bool → List (K × A) → K × A → List (K × A)
  more_if b found one = if b then found else found ++ one ∷ []

  abbrev keys : List (K × A) → List K
  keys found = map (λ e. e.0) found

  -- ---- What was found stays.

  stays : (b : Bool) (found : List (K × A)) (one f : K × A) → IsIn found f
      → IsIn (more_if b found one) f
  stays true found one f i = i
  stays false found one f i = IsIn-left found (one ∷ []) f i

  all_stay : (all found : List (K × A)) (f : K × A) → IsIn found f
      → IsIn (fold (with_first same) found all) f
  all_stay [] found f i = i
  all_stay (one ∷ all) found f i =
      all_stay all (with_first same found one) f (stays (has_key found one.0) found one f i)

  -- ---- Each of the first is one of the items.

  from_either : (b : Bool) (found : List (K × A)) (one f : K × A) → IsIn (more_if b found one) f
      → IsIn found f ⊎ (one ≡ f)
  from_either true found one f i = inl i
  from_either false found one f i = elim (IsIn-split found (one ∷ []) f i) [
    | inl before ↦ inl before
    | inr (inl last) ↦ inr last
    | inr (inr none) ↦ absurd none
  ]

  from_all : (all found : List (K × A)) (f : K × A) → IsIn (fold (with_first same) found all) f
      → IsIn found f ⊎ IsIn all f
  from_all [] found f i = inl i
  from_all (one ∷ all) found f i = grind (arith, common_steps, from_all all, from_either)

  pub first_is_one : (all : List (K × A)) (f : K × A) → IsIn (firsts same all) f → IsIn all f
  first_is_one all f i = elim (from_all all [] f i) [ inl none ↦ absurd none | inr there ↦ there ]

  -- ---- Each item has its key among the first.

  abbrev HasKeyOf : List (K × A) → K × A → Type 0
  HasKeyOf found one = (f : K × A) × IsIn found f × (f.0 ≡ one.0)

  key_there : Decides same → (b : Bool) (found : List (K × A)) (one : K × A)
      → has_key found one.0 ≡ b → HasKeyOf (more_if b found one) one
  key_there decides true found one has =
      let r = any_in (λ e. same one.0 e.0) found has in
      (r.0, r.1, sym ((decides one.0 r.0.0).0 r.2))
  key_there decides false found one none =
      (one, IsIn-right found (one ∷ []) one (inl refl), refl)

  each_key_there : Decides same → (all found : List (K × A)) (one : K × A) → IsIn all one
      → HasKeyOf (fold (with_first same) found all) one
  each_key_there decides [] found one i = absurd i
  each_key_there decides (other ∷ all) found one (inl is) =
      let r = key_there decides (has_key found other.0) found other refl in (
        r.0,
        all_stay all (with_first same found other) r.0 r.1,
        r.2 ∙ ap (λ (e : K × A). e.0) is,
      )
  each_key_there decides (other ∷ all) found one (inr i) =
      each_key_there decides all (with_first same found other) one i

  pub first_of_key : Decides same → (all : List (K × A)) (one : K × A) → IsIn all one
      → (f : K × A) × IsIn (firsts same all) f × (f.0 ≡ one.0)
  first_of_key decides all one i = each_key_there decides all [] one i

  -- ---- No two of the first have the same key.

  none_before : Decides same → (found : List (K × A)) (key : K) → has_key found key ≡ false
      → list_any (λ k. same k key) (keys found) ≡ false
  none_before decides [] key none = refl
  none_before decides (f ∷ found) key none =
      grind (arith, common_steps, or_parts, flipped, none_before decides found key)

  one_more_apart : Decides same → (b : Bool) (found : List (K × A)) (one : K × A)
      → has_key found one.0 ≡ b → IsDistinct same (keys found)
      → IsDistinct same (keys (more_if b found one))
  one_more_apart decides true found one has apart = apart
  one_more_apart decides false found one none apart =
      grind (arith, common_steps, map-append, distinct_push, none_before)

  all_apart : Decides same → (all found : List (K × A)) → IsDistinct same (keys found)
      → IsDistinct same (keys (fold (with_first same) found all))
  all_apart decides [] found apart = apart
  all_apart decides (one ∷ all) found apart =
      grind (arith, common_steps, all_apart decides all, one_more_apart)

  pub firsts_apart : Decides same → (all : List (K × A))
      → IsDistinct same (map (λ e. e.0) (firsts same all))
  firsts_apart decides all = all_apart decides all [] (distinct_none same)
