-- The pairs of a choice, label by label, and the label set that they make.
use Rattle.std.proofs.Common.{◌≡◌, ◌≢◌, ℕ, zero, suc, ◌<◌, false, cond, List, [], ◌∷◌, ◌++◌, length, take, Option, Some, None, option_map, slice_get, slice_index, option_and_then, ap, sym, ◌∙◌, refl, subst, arith}
use Rattle.std.specs.Ordering.{nat_cmp}
use Rattle.std.specs.Cmp.Lexicographic.{slice_cmp}
use Rattle.std.specs.List.{AllByRecursion, IsDistinct}
use Rattle.std.specs.FinMap.{find}
use Rattle.std.proofs.lemmas.Option.{slice_get-get_or, slice_get-map}
use Rattle.std.proofs.lemmas.Map.Keys.{IsDistinct-head, IsDistinct-tail}
use Rattle.am_universe.specs.Text.{same_text}
use Rattle.am_universe.specs.Universe.{Label, Values, IsLabel, IsUniverse, names, is_empty_text}
use Rattle.am_universe.specs.LabelSet.{value_at, with_label, label_pairs}
use Rattle.am_universe.proofs.LabelMapLemmas.{flips}

-- ---- Labels by their places.

pub at_place : {X : Type 0} (P : X → Type 0) (xs : List X) (i : ℕ) (x : X) → AllByRecursion P xs → slice_get xs i ≡ Some x → P x
at_place P [] i x h e = cc
at_place P (y ∷ xs) zero x h e = let same : y ≡ x = cc in subst P same h.0
at_place P (y ∷ xs) (suc i) x h e = at_place P xs i x h.1 e

pub found_at : {X : Type 0} (xs : List X) (i : ℕ) → i < length xs → (x : X) × (slice_get xs i ≡ Some x)
found_at [] i h = absurd (omega arith)
found_at (x ∷ xs) zero h = (x, refl)
found_at (x ∷ xs) (suc i) h = found_at xs i (omega arith)

-- None of these labels has the name.
abbrev pub AreOthers : List ℕ → List Label → Type 0
AreOthers name u = AllByRecursion (λ m. same_text m.name name ≡ false) u

pub apart_from_first : (k : List ℕ) (u : List Label) (i : ℕ) (l : Label) → AllByRecursion (λ y. same_text k y ≡ false) (names u) → slice_get u i ≡ Some l → same_text k l.name ≡ false
apart_from_first k [] i l h e = cc
apart_from_first k (m ∷ u) zero l h e = let same : m ≡ l = cc in subst (λ n. same_text k n.name ≡ false) same h.0
apart_from_first k (m ∷ u) (suc i) l h e = apart_from_first k u i l h.1 e

pub AreOthers-before : (u : List Label) (i : ℕ) (l : Label) → IsDistinct same_text (names u) → slice_get u i ≡ Some l → AreOthers l.name (take i u)
AreOthers-before u zero l d e = tt
AreOthers-before [] (suc i) l d e = tt
AreOthers-before (m ∷ u) (suc i) l d e = (apart_from_first m.name u i l (IsDistinct-head _ _ _ d) e, AreOthers-before u i l (IsDistinct-tail _ _ _ d) e)

no_empty_text : (vs : Values) (j : ℕ) → AllByRecursion (λ v. is_empty_text v ≡ false) vs → option_and_then (λ v. v) (slice_get vs j) ≢ Some []
no_empty_text [] j h e = cc
no_empty_text (v ∷ vs) zero h e = cc
no_empty_text (v ∷ vs) (suc j) h e = no_empty_text vs j h.1 e

pub value_at-text : (u : List Label) (i : ℕ) (l : Label) (p : ℕ) → IsUniverse u → slice_get u i ≡ Some l → value_at l p ≢ Some []
value_at-text u i l p h e = no_empty_text l.values p (at_place IsLabel u i l h.labels e).texts

-- ---- The pairs of the first labels.

pub with_label-append : (name : List ℕ) (value : Option (List ℕ)) (xs ys : List (List ℕ × List ℕ)) → with_label name value (xs ++ ys) ≡ with_label name value xs ++ ys
with_label-append name None xs ys = refl
with_label-append name (Some v) xs ys = refl

pub label_pairs-more : (u : List Label) (c : List ℕ) (i : ℕ) (l : Label) (p : ℕ) → slice_get u i ≡ Some l → slice_get c i ≡ Some p → label_pairs (take (suc i) u) (take (suc i) c) ≡ label_pairs (take i u) (take i c) ++ with_label l.name (value_at l p) []
label_pairs-more [] c i l p e f = cc
label_pairs-more (m ∷ u) [] i l p e f = cc
label_pairs-more (m ∷ u) (q ∷ c) zero l p e f = let same : m ≡ l = cc in let also : q ≡ p = cc in cc
label_pairs-more (m ∷ u) (q ∷ c) (suc i) l p e f = ap (with_label m.name (value_at m q)) (label_pairs-more u c i l p e f) ∙ with_label-append m.name (value_at m q) _ _

pub find_before : (q name : List ℕ) (value : Option (List ℕ)) (pairs : List (List ℕ × List ℕ)) → same_text name q ≡ false → find (slice_cmp nat_cmp) q (with_label name value pairs) ≡ find (slice_cmp nat_cmp) q pairs
find_before q name None pairs h = refl
find_before q name (Some v) pairs h = ap (λ b. cond b (Some v) (find (slice_cmp nat_cmp) q pairs)) (flips q name ∙ h)

pub none_of_others : (u : List Label) (c q : List ℕ) → AreOthers q u → find (slice_cmp nat_cmp) q (label_pairs u c) ≡ None
none_of_others [] c q h = refl
none_of_others (m ∷ u) [] q h = refl
none_of_others (m ∷ u) (p ∷ c) q h = find_before q m.name (value_at m p) (label_pairs u c) h.0 ∙ none_of_others u c q h.1

-- ---- The label at i, for which a choice has the position p, and the value there.

pub record Chosen (u : List Label) (c : List ℕ) (i p : ℕ) (value : Option (List ℕ)) : Type 0 where
  pub label : Label
  pub at : slice_get u i ≡ Some label
  pub picked : slice_get c i ≡ Some p
  pub valued : value_at label p ≡ value

pub chosen : (u : List Label) (c : List ℕ) (i p : ℕ) (value : Option (List ℕ)) → length c ≡ length u → i < length u → p ≡ slice_index c i → value ≡ option_and_then (λ l. value_at l p) (slice_get u i) → Chosen u c i p value
chosen u c i p value whole k is valued =
    let found : (l : Label) × (slice_get u i ≡ Some l) = found_at u i k in
    record {
      label = found.0;
      at = found.1;
      picked = slice_get-get_or c i 0 (omega arith) ∙ ap Some (sym is);
      valued = sym (valued ∙ ap (option_and_then (λ l. value_at l p)) found.1);
    }

pub name_at : (u : List Label) (i : ℕ) (l : Label) (name : List ℕ) → slice_get u i ≡ Some l → slice_get (names u) i ≡ Some name → l.name ≡ name
name_at u i l name at named =
    let same : Some l.name ≡ Some name = sym (sym named ∙ slice_get-map (λ l. l.name) u i ∙ ap (option_map (λ l. l.name)) at) in
    cc
