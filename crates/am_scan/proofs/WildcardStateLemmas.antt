-- The states of a pattern with wildcards that are kept.
use Rattle.std.proofs.Common.{◌≡◌, ℕ, ◌+◌, ◌<◌, true, false, List, [], ◌∷◌, ◌++◌, Some, length, slice_get, get_or, refl, sym, ap, ◌∙◌, subst, inl, inr, below_more, arith}
use Rattle.std.proofs.lemmas.Bool.Decides.{Decides-eqb}
use Rattle.std.specs.Global.{Vec}
use Rattle.std.specs.List.{list_any, IsDistinct}
use Rattle.std.proofs.lemmas.Bool.{cond_both, both_ways, cases_order}
use Rattle.std.proofs.lemmas.List.{get_or_append_left, get_or_push}
use Rattle.std.proofs.lemmas.Map.Keys.{apart_from_distinct}
use Rattle.std.proofs.lemmas.Option.{slice_get_within, get_or_from_slice_get}
use Rattle.std.proofs.lemmas.Slice.Eq.{slice_eq-Decides}
use Rattle.indexmap.specs.IndexSet.{insert_key}
use Rattle.am_scan.specs.declared.row.Row.{Row}
use Rattle.am_scan.specs.declared.wildcard_place.WildcardPlace.{WildcardPlace}
use Rattle.am_scan.specs.Automaton.{Grows}
use Rattle.am_scan.specs.WildcardPlaces.{marked_places, same_state, AreReached, IsNumberOf, IsRowOf, LeadOn}
use Rattle.am_scan.proofs.Places.{get_pushed}

-- States that the set takes for the same are so.
pub same_items : (x y : Vec ℕ) → same_state x y ≡ true → x.items ≡ y.items
same_items x y same = (slice_eq-Decides Decides-eqb x.items y.items (same_state x y) refl).0 same

pub reached_inserted : (ps : List WildcardPlace) (old new : List (Vec ℕ)) (x : Vec ℕ) (text : List ℕ) → new ≡ insert_key same_state old x → AreReached ps old → x.items ≡ marked_places ps text → AreReached ps new
reached_inserted ps old new x text is reached here = subst (AreReached ps) (sym is)
    (cond_both (list_any (same_state x) old) old (old ++ x ∷ []) (AreReached ps) (λ _. reached) (λ _ k y at. elim (get_pushed old x y k at) [
      | inl before ↦ reached k y before
      | inr last ↦ (text, ap (λ (z : Vec ℕ). z.items) (sym last.1) ∙ here)
    ]))

-- One more symbol leads on.
pub one_lead_more : (ps : List WildcardPlace) (symbols numbers : List ℕ) (old new : List (Vec ℕ)) (here : List ℕ) (number n : ℕ) → length numbers ≡ n → Grows old new →
    ((k : ℕ) → k < n → LeadOn ps symbols old here numbers k) → ((text : List ℕ) → here ≡ marked_places ps text → IsNumberOf ps new number (get_or symbols n 0 ∷ text)) →
    (k : ℕ) → k < n + 1 → LeadOn ps symbols new here (numbers ++ number ∷ []) k
one_lead_more ps symbols numbers old new here number n len grows leads last =
    below_more (LeadOn ps symbols new here (numbers ++ number ∷ [])) n
    (λ k h s text symbol is. let lead = leads k h s text symbol is in rw (get_or_append_left numbers (number ∷ []) 0 k (omega arith)) (lead.0, grows _ _ lead.1, lead.2))
    (λ s text at is. let symbol = get_or_from_slice_get symbols n s 0 at in rw (get_or_push numbers number 0 n len, ← symbol) (last text is))

-- No two states of the set have the same marks.
never_after : (states : List (Vec ℕ)) (i j : ℕ) (x y : Vec ℕ) → IsDistinct same_state states → slice_get states i ≡ Some x → slice_get states j ≡ Some y → x.items ≡ y.items → i < j → ⊥
never_after states i j x y unique one other same below =
    let apart = apart_from_distinct same_state states i j y unique below (slice_get_within states j y other) in
    let differ : same_state x y ≡ false = rw (get_or_from_slice_get states i x y one, get_or_from_slice_get states j y y other) at apart in
    both_ways _ differ ((slice_eq-Decides Decides-eqb x.items y.items (same_state x y) refl).1 same)

pub states_apart : (states : List (Vec ℕ)) (i j : ℕ) (x y : Vec ℕ) → IsDistinct same_state states → slice_get states i ≡ Some x → slice_get states j ≡ Some y → x.items ≡ y.items → i ≡ j
states_apart states i j x y unique one other same = elim (cases_order i j) [
  | inl equal ↦ equal
  | inr differ ↦ elim differ [
    | inl below ↦ absurd (never_after states i j x y unique one other same below)
    | inr above ↦ absurd (never_after states j i y x unique other one (sym same) above)
  ]
]

-- A row stays a row when states are added.
pub row_kept : (ps : List WildcardPlace) (symbols : List ℕ) (old new : List (Vec ℕ)) (here : List ℕ) (row : Row) → Grows old new → IsRowOf ps symbols old here row → IsRowOf ps symbols new here row
row_kept ps symbols old new here row grows h = record { found = h.found; leads = λ k below s text at is. let lead = h.leads k below s text at is in (lead.0, grows _ _ lead.1, lead.2) }
