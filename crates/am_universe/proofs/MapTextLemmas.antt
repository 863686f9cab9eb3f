-- The entries in memory are those of the label set, in its order; and the texts of the entries that
-- are written so far.
use Rattle.std.proofs.Common.{◌≡◌, true, List, [], ◌∷◌, ◌++◌, ℕ, String, string_bytes, refl, sym, ap, subst, ◌∙◌, append_assoc, arith}
use lib.Dec.{T}
use Rattle.std.specs.declared.alloc.Global.{Global}
use Rattle.std.specs.declared.cmp.Ordering.TheVariants.{Less}
use Rattle.std.specs.Ordering.{nat_cmp, is_lt}
use Rattle.std.specs.Cmp.Lexicographic.{slice_cmp, nat_list_cmp_total}
use Rattle.std.specs.String.{string_cmp}
use Rattle.std.specs.List.{AllByRecursion}
use Rattle.std.specs.List.Sorted.{IsStrictlySortedBy}
use Rattle.std.specs.Map.{keys_of}
use Rattle.std.specs.BTreeMap.{BTreeMap, IsOrdered}
use Rattle.std.specs.FinMap.{entries, from_sorted, entries-from_sorted, get-from_entries, get-from_sorted, is_sorted}
use Rattle.std.specs.FinMap.Entries.{below_all}
use Rattle.std.proofs.lemmas.Bool.{and_from}
use Rattle.std.proofs.lemmas.Grind.{common_steps}
use Rattle.am_universe.specs.LabelSetView.{entry_texts, label_map_of}
use Rattle.am_universe.proofs.LabelMapLemmas.{same_set}

abbrev Entry : Type 0
Entry = String Global × String Global

below_texts : (k : String Global) (es : List Entry) → AllByRecursion (λ y. string_cmp k y ≡ Less) (keys_of es) → below_all (slice_cmp nat_cmp) (string_bytes k) (entry_texts es) ≡ true
below_texts k [] h = refl
below_texts k (e ∷ es) h = and_from (is_lt (slice_cmp nat_cmp (string_bytes k) (string_bytes e.0))) _ (ap is_lt h.0) (below_texts k es h.1)

sorted_texts : (es : List Entry) → IsStrictlySortedBy string_cmp (keys_of es) → is_sorted (slice_cmp nat_cmp) (entry_texts es) ≡ true
unfolding IsStrictlySortedBy
sorted_texts [] h = refl
sorted_texts (e ∷ es) h = and_from _ (is_sorted (slice_cmp nat_cmp) (entry_texts es)) (below_texts e.0 es h.0) (sorted_texts es h.1)

pub entries_kept : (m : BTreeMap (String Global) (String Global)) → IsOrdered string_cmp m → entries (label_map_of m.entries) ≡ entry_texts m.entries
entries_kept m o =
    let texts : List (List ℕ × List ℕ) = entry_texts m.entries in
    let sorted : T (is_sorted (slice_cmp nat_cmp) texts) = subst T (sym (sorted_texts m.entries o)) tt in
    ap entries (same_set (label_map_of m.entries) (from_sorted texts) (λ q. get-from_entries nat_list_cmp_total texts q ∙ sym (get-from_sorted (slice_cmp nat_cmp) texts q sorted)))
    ∙ entries-from_sorted (slice_cmp nat_cmp) texts sorted

-- One entry, with others before and after it.
pub entry_among : (all done left rest : List Entry) (e : Entry) (name value : List ℕ) → all ≡ done ++ left → left ≡ e ∷ rest → name ≡ string_bytes e.0 → value ≡ string_bytes e.1
    → entry_texts all ≡ entry_texts done ++ (name, value) ∷ entry_texts rest
entry_among all done left rest e name value is next named valued = grind (arith, common_steps)

-- One entry after others.
pub entry_behind : (done : List Entry) (e : Entry) (name value : List ℕ) → name ≡ string_bytes e.0 → value ≡ string_bytes e.1 → entry_texts (done ++ e ∷ []) ≡ entry_texts done ++ (name, value) ∷ []
entry_behind done e name value named valued = entry_among (done ++ e ∷ []) done (e ∷ []) [] e name value refl refl named valued

pub all_behind : (all done left rest : List Entry) (e : Entry) → all ≡ done ++ left → left ≡ e ∷ rest → all ≡ (done ++ e ∷ []) ++ rest
all_behind all done left rest e is next = is ∙ ap (λ r. done ++ r) next ∙ sym (append_assoc done (e ∷ []) rest)
