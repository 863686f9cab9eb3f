-- Label sets as finite maps of texts, and the entries that they are made from.
use Rattle.std.proofs.Common.{◌≡◌, ◌≢◌, ℕ, ◌+◌, Bool, true, false, cond, List, [], ◌∷◌, length, Option, Some, None, option_map, unwrap_or, is_some, String, string_bytes, ap, sym, ◌∙◌, refl, arith}
use Rattle.std.specs.Ordering.{nat_cmp, is_eq, eq_by_cmp}
use Rattle.std.specs.Cmp.{eq_by_cmp_equiv}
use Rattle.std.specs.Cmp.Lexicographic.{slice_cmp, nat_list_cmp_total}
use Rattle.std.specs.List.{AllByRecursion, IsDistinct}
use Rattle.std.specs.Map.{lookup, keys_of}
use Rattle.std.specs.String.{string_cmp}
use Rattle.std.specs.BTreeMap.{BTreeMap, UpdatesBy, get_by_text, IsOrdered}
use Rattle.std.specs.FinMap.{get, len, insert, remove, find, same_map, get-insert, get-remove, get-from_entries, len-insert, len-empty, nat_cmp-IsAntisymmetric, slice_cmp-IsAntisymmetric}
use Rattle.std.specs.declared.alloc.Global.{Global}
use Rattle.std.proofs.lemmas.Map.Keys.{IsDistinct-from_sorted, IsDistinct-head, IsDistinct-tail}
use Rattle.std.proofs.lemmas.List.{nil_from_length}
use Rattle.std.proofs.lemmas.Grind.{common_steps}
use Rattle.std.proofs.lemmas.Map.Text.{is_eq-slice_cmp, btree_map_updates_text}
use Rattle.am_universe.specs.Text.{same_text}
use Rattle.am_universe.specs.LabelSet.{LabelMap, value_of, with_value, HasTextsAlone}
use Rattle.am_universe.specs.LabelSetView.{entry_texts, label_map_of}

-- ---- Sets.

pub same_set : (s t : LabelMap) → ((q : List ℕ) → get s q ≡ get t q) → s ≡ t
same_set s t is = same_map nat_list_cmp_total (slice_cmp-IsAntisymmetric nat_cmp-IsAntisymmetric) s t is

pub flips : (a b : List ℕ) → eq_by_cmp (slice_cmp nat_cmp) a b ≡ same_text b a
flips a b = (eq_by_cmp_equiv nat_list_cmp_total).symm a b ∙ is_eq-slice_cmp b a

pub removed_at : (s : LabelMap) (k q : List ℕ) → get (remove s k) q ≡ cond (same_text k q) None (get s q)
removed_at s k q = get-remove nat_list_cmp_total s k q ∙ ap (λ b. cond b None (get s q)) (flips q k)

pub inserted_at : (s : LabelMap) (k v q : List ℕ) → get (insert s k v) q ≡ cond (same_text k q) (Some v) (get s q)
inserted_at s k v q = get-insert nat_list_cmp_total s k v q ∙ ap (λ b. cond b (Some v) (get s q)) (flips q k)

-- ---- A value that is put.

pub with_no_text : (s : LabelMap) (k v : List ℕ) → v ≡ [] → with_value s k v ≡ remove s k
with_no_text s k v e = ap (with_value s k) e

pub with_text : (s : LabelMap) (k v : List ℕ) → v ≢ [] → with_value s k v ≡ insert s k v
with_text s k [] some = absurd (some refl)
with_text s k (c ∷ cs) some = refl

cond_apart : (b : Bool) (x y : Option (List ℕ)) → x ≢ Some [] → y ≢ Some [] → cond b x y ≢ Some []
cond_apart true x y h i = h
cond_apart false x y h i = i

pub HasTextsAlone-with_value : (s : LabelMap) (k v : List ℕ) → HasTextsAlone s → HasTextsAlone (with_value s k v)
HasTextsAlone-with_value s k [] h q = rw removed_at (cond_apart (same_text k q) None (get s q) (λ e. cc) (h q))
HasTextsAlone-with_value s k (c ∷ cs) h q = rw inserted_at (cond_apart (same_text k q) (Some (c ∷ cs)) (get s q) (λ e. cc) (h q))

-- ---- Entries in memory.

find_texts : (q : List ℕ) (es : List (String Global × String Global)) → find (slice_cmp nat_cmp) q (entry_texts es) ≡ option_map string_bytes (lookup (λ k. is_eq (slice_cmp nat_cmp q (string_bytes k))) es)
find_texts q [] = refl
find_texts q (e ∷ es) = grind (arith, common_steps, find_texts q es)

pub kept_at : (m : BTreeMap (String Global) (String Global)) (q : List ℕ) → get (label_map_of m.entries) q ≡ option_map string_bytes (get_by_text m q)
kept_at m q = get-from_entries nat_list_cmp_total (entry_texts m.entries) q ∙ find_texts q m.entries

mapped : {X Y : Type 0} (f : X → Y) (b : Bool) (v w : Option X) → option_map f (cond b v w) ≡ cond b (option_map f v) (option_map f w)
mapped f true v w = refl
mapped f false v w = refl

updated_at : (m n : BTreeMap (String Global) (String Global)) (k : List ℕ) (w : Option (String Global)) → UpdatesBy string_cmp (λ y. slice_cmp nat_cmp k (string_bytes y)) m n w → (q : List ℕ) → get (label_map_of n.entries) q ≡ cond (same_text k q) (option_map string_bytes w) (get (label_map_of m.entries) q)
updated_at m n k w u q = kept_at n q ∙ ap (option_map string_bytes) (btree_map_updates_text k m n w u q) ∙ mapped string_bytes (same_text k q) w (get_by_text m q) ∙ ap (cond (same_text k q) (option_map string_bytes w)) (sym (kept_at m q))

pub removed_is : (m n : BTreeMap (String Global) (String Global)) (k : List ℕ) → UpdatesBy string_cmp (λ y. slice_cmp nat_cmp k (string_bytes y)) m n None → label_map_of n.entries ≡ remove (label_map_of m.entries) k
removed_is m n k u = same_set _ _ (λ q. updated_at m n k None u q ∙ sym (removed_at (label_map_of m.entries) k q))

pub inserted_is : (m n : BTreeMap (String Global) (String Global)) (k : List ℕ) (v : String Global) → UpdatesBy string_cmp (λ y. slice_cmp nat_cmp k (string_bytes y)) m n (Some v) → label_map_of n.entries ≡ insert (label_map_of m.entries) k (string_bytes v)
inserted_is m n k v u = same_set _ _ (λ q. updated_at m n k (Some v) u q ∙ sym (inserted_at (label_map_of m.entries) k (string_bytes v) q))

-- ---- How many labels there are.

missing : (k : String Global) (es : List (String Global × String Global)) → AllByRecursion (λ y. eq_by_cmp string_cmp k y ≡ false) (keys_of es) → find (slice_cmp nat_cmp) (string_bytes k) (entry_texts es) ≡ None
missing k [] h = refl
missing k (e ∷ es) h = ap (λ b. cond b (Some (string_bytes e.1)) (find (slice_cmp nat_cmp) (string_bytes k) (entry_texts es))) h.0 ∙ missing k es h.1

len_distinct : (es : List (String Global × String Global)) → IsDistinct (eq_by_cmp string_cmp) (keys_of es) → len (label_map_of es) ≡ length es
len_distinct [] d = len-empty (slice_cmp nat_cmp) (List ℕ)
len_distinct (e ∷ es) d =
    let new : is_some (get (label_map_of es) (string_bytes e.0)) ≡ false = ap is_some (get-from_entries nat_list_cmp_total (entry_texts es) (string_bytes e.0) ∙ missing e.0 es (IsDistinct-head _ _ _ d)) in
    let others = len_distinct es (IsDistinct-tail _ _ _ d) in
    len-insert nat_list_cmp_total (label_map_of es) (string_bytes e.0) (string_bytes e.1) ∙ ap (λ b. cond b (len (label_map_of es)) (len (label_map_of es) + 1)) new ∙ omega (arith, others)

pub len_kept : (m : BTreeMap (String Global) (String Global)) → IsOrdered string_cmp m → len (label_map_of m.entries) ≡ length m.entries
len_kept m o = len_distinct m.entries (IsDistinct-from_sorted string_cmp _ o)

-- ---- What a call on the map in memory does.

-- Here the key is looked up by bytes j, which are equal to it.
pub removed_with : (m n : BTreeMap (String Global) (String Global)) (j k v : List ℕ) → j ≡ k → length v ≡ 0 → UpdatesBy string_cmp (λ y. slice_cmp nat_cmp j (string_bytes y)) m n None → label_map_of n.entries ≡ with_value (label_map_of m.entries) k v
removed_with m n j k v same e u = removed_is m n j u ∙ ap (remove (label_map_of m.entries)) same ∙ sym (with_no_text (label_map_of m.entries) k v (nil_from_length v e))

pub inserted_with : (m n : BTreeMap (String Global) (String Global)) (k : List ℕ) (v : String Global) → length (string_bytes v) ≢ 0 → UpdatesBy string_cmp (λ y. slice_cmp nat_cmp k (string_bytes y)) m n (Some v) → label_map_of n.entries ≡ with_value (label_map_of m.entries) k (string_bytes v)
inserted_with m n k v some u = inserted_is m n k v u ∙ sym (with_text (label_map_of m.entries) k (string_bytes v) (λ e. some (ap length e)))

pub value_kept : (m : BTreeMap (String Global) (String Global)) (q : List ℕ) (r : Option (String Global)) → r ≡ get_by_text m q → unwrap_or (option_map string_bytes r) [] ≡ value_of (label_map_of m.entries) q
value_kept m q r e = ap (λ o. unwrap_or (option_map string_bytes o) []) e ∙ ap (λ o. unwrap_or o []) (sym (kept_at m q))

pub HasTextsAlone-of_none : (es : List (String Global × String Global)) → es ≡ [] → HasTextsAlone (label_map_of es)
HasTextsAlone-of_none es e q h =
    let none : get (label_map_of es) q ≡ None = ap (λ xs. get (label_map_of xs) q) e ∙ get-from_entries nat_list_cmp_total [] q in
    cc
