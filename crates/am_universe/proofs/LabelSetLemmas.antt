-- The label set of a choice: the values of labels in it, and how it is made label by label.
use Rattle.std.proofs.Common.{◌≡◌, ◌≢◌, ℕ, zero, suc, ◌+◌, ◌<◌, true, false, cond, List, [], ◌∷◌, ◌++◌, length, take, slice_index, option_and_then, Option, Some, None, unwrap_or, slice_get, Contains, ap, sym, ◌∙◌, refl, subst, inl, inr}
use Rattle.std.specs.Ordering.{nat_cmp}
use Rattle.std.specs.Cmp.Lexicographic.{slice_cmp, nat_list_cmp_total, bytes_decides}
use Rattle.std.specs.List.{AllByRecursion, IsDistinct}
use Rattle.std.specs.FinMap.{find, from_entries, from_entries_push, get-from_entries, nat_cmp-IsAntisymmetric, slice_cmp-IsAntisymmetric}
use Rattle.std.proofs.lemmas.Bool.{cases_Bool}
use Rattle.std.proofs.lemmas.Map.Keys.{IsDistinct-head, IsDistinct-tail}
use Rattle.am_universe.specs.Text.{same_text}
use Rattle.am_universe.specs.Universe.{Label, IsUniverse, names}
use Rattle.am_universe.specs.LabelSet.{LabelMap, value_of, with_value, value_at, with_label, label_pairs, label_set_of}
use Rattle.am_universe.proofs.LabelMapLemmas.{flips, with_text}
use Rattle.am_universe.proofs.ListLemmas.{IsIn, Contains-from_IsIn}
use Rattle.am_universe.proofs.LabelPairLemmas.{AreOthers, AreOthers-before, apart_from_first, value_at-text, find_before, none_of_others, chosen, name_at}
use Rattle.am_universe.proofs.SetTextLemmas.{next_pair, no_pair}

pub same_text-itself : (a : List ℕ) → same_text a a ≡ true
same_text-itself a = (bytes_decides a a).1 refl

same_text-flips : (a b : List ℕ) → same_text a b ≡ false → same_text b a ≡ false
same_text-flips a b h = elim (cases_Bool (same_text b a)) [
  | inl t ↦ let e = (bytes_decides b a).0 t in let u : same_text a b ≡ true = (bytes_decides a b).1 (sym e) in cc
  | inr f ↦ f
]

pub AreOthers-after : (name : List ℕ) (u : List Label) → AllByRecursion (λ y. same_text name y ≡ false) (names u) → AreOthers name u
AreOthers-after name [] h = tt
AreOthers-after name (m ∷ u) h = (same_text-flips name m.name h.0, AreOthers-after name u h.1)

AreOthers-undeclared : (u : List Label) (name : List ℕ) → (IsIn (names u) name → ⊥) → AreOthers name u
AreOthers-undeclared [] name h = tt
AreOthers-undeclared (m ∷ u) name h = elim (cases_Bool (same_text m.name name)) [
  | inl t ↦ absurd (h (inl ((bytes_decides m.name name).0 t)))
  | inr f ↦ (f, AreOthers-undeclared u name (λ i. h (inr i)))
]

pub find_first : (name : List ℕ) (value : Option (List ℕ)) (pairs : List (List ℕ × List ℕ)) → find (slice_cmp nat_cmp) name pairs ≡ None → find (slice_cmp nat_cmp) name (with_label name value pairs) ≡ value
find_first name None pairs h = h
find_first name (Some v) pairs h = ap (λ b. cond b (Some v) (find (slice_cmp nat_cmp) name pairs)) (flips name name ∙ same_text-itself name)

find_declared : (u : List Label) (c : List ℕ) (i : ℕ) (label : Label) (p : ℕ) → IsDistinct same_text (names u) → slice_get u i ≡ Some label → slice_get c i ≡ Some p → find (slice_cmp nat_cmp) label.name (label_pairs u c) ≡ value_at label p
find_declared [] c i label p d e f = cc
find_declared (m ∷ u) [] i label p d e f = cc
find_declared (m ∷ u) (q ∷ c) zero label p d e f =
    let same : m ≡ label = cc in
    let also : q ≡ p = cc in
    let none = none_of_others u c m.name (AreOthers-after m.name u (IsDistinct-head _ _ _ d)) in
    subst (λ l. find (slice_cmp nat_cmp) l.name (label_pairs (m ∷ u) (q ∷ c)) ≡ value_at l p) same (find_first m.name (value_at m q) (label_pairs u c) none ∙ ap (value_at m) also)
find_declared (m ∷ u) (q ∷ c) (suc i) label p d e f =
    find_before label.name m.name (value_at m q) (label_pairs u c) (apart_from_first m.name u i label (IsDistinct-head _ _ _ d) e) ∙ find_declared u c i label p (IsDistinct-tail _ _ _ d) e f

pub value_of_declared : (u : List Label) (c : List ℕ) (i : ℕ) (label : Label) (p : ℕ) → IsUniverse u → slice_get u i ≡ Some label → slice_get c i ≡ Some p → value_of (label_set_of u c) label.name ≡ unwrap_or (value_at label p) []
value_of_declared u c i label p h e f = ap (λ o. unwrap_or o []) (get-from_entries nat_list_cmp_total (label_pairs u c) label.name ∙ find_declared u c i label p h.distinct e f)

pub value_of_undeclared : (u : List Label) (c name : List ℕ) → (Contains (names u) name → ⊥) → value_of (label_set_of u c) name ≡ []
value_of_undeclared u c name h = ap (λ o. unwrap_or o []) (get-from_entries nat_list_cmp_total (label_pairs u c) name ∙ none_of_others u c name (AreOthers-undeclared u name (λ i. h (Contains-from_IsIn (names u) name i))))

-- ---- One turn: s is the set of the first i labels.

from_pairs-push : (pairs : List (List ℕ × List ℕ)) (name value : List ℕ) → find (slice_cmp nat_cmp) name pairs ≡ None → value ≢ [] → from_entries {R = slice_cmp nat_cmp} (pairs ++ (name, value) ∷ []) ≡ with_value (from_entries pairs) name value
from_pairs-push pairs name value new some = from_entries_push nat_list_cmp_total (slice_cmp-IsAntisymmetric nat_cmp-IsAntisymmetric) pairs name value new ∙ sym (with_text (from_entries pairs) name value some)

pub turn_with : (u : List Label) (c : List ℕ) (i p : ℕ) (s : LabelMap) (name text : List ℕ) → IsUniverse u → length c ≡ length u → i < length u → p ≡ slice_index c i → s ≡ label_set_of (take i u) (take i c) → slice_get (names u) i ≡ Some name → Some text ≡ option_and_then (λ l. value_at l p) (slice_get u i) → with_value s name text ≡ label_set_of (take (i + 1) u) (take (i + 1) c)
turn_with u c i p s name text h whole k is so named valued =
    let here = chosen u c i p (Some text) whole k is valued in
    let pairs : List (List ℕ × List ℕ) = label_pairs (take i u) (take i c) in
    let new : find (slice_cmp nat_cmp) name pairs ≡ None =
    subst (λ n. find (slice_cmp nat_cmp) n pairs ≡ None) (name_at u i here.label name here.at named) (none_of_others (take i u) (take i c) here.label.name (AreOthers-before u i here.label h.distinct here.at)) in
    ap (λ t. with_value t name text) so ∙ sym (from_pairs-push pairs name text new (λ e. value_at-text u i here.label p h here.at (here.valued ∙ ap Some e)))
    ∙ ap from_entries (sym (next_pair u c i p name text whole k is named valued))

pub turn_without : (u : List Label) (c : List ℕ) (i p : ℕ) (s : LabelMap) → length c ≡ length u → i < length u → p ≡ slice_index c i → s ≡ label_set_of (take i u) (take i c) → None ≡ option_and_then (λ l. value_at l p) (slice_get u i) → s ≡ label_set_of (take (i + 1) u) (take (i + 1) c)
turn_without u c i p s whole k is so valued = so ∙ ap from_entries (sym (no_pair u c i p whole k is valued))
