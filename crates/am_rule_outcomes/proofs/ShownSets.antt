-- The label set of names and texts, and that which is shown for a choice: the labels that are fixed
-- have their texts, and the others those of the choice.
use Rattle.std.proofs.Common.{◌≡◌, ℕ, Bool, true, false, not, cond, ◌==◌, length, List, [], ◌∷◌, ◌++◌}
use Rattle.std.proofs.Common.{fold, map, Option, Some, None, refl, sym, ap, ◌∙◌, subst, inl, inr, arith}
use Rattle.std.specs.Prelude.{unwrap_or}
use Rattle.std.specs.Ordering.{nat_cmp}
use Rattle.std.specs.Cmp.Lexicographic.{slice_cmp, nat_list_cmp_total, nat_list_eq_equiv, bytes_decides}
use Rattle.std.specs.FinMap as finite
use Rattle.std.specs.FinMap.{find, get, get-empty, get-from_entries}
use Rattle.std.specs.List.{AllByRecursion, IsDistinct, filter}
use Rattle.std.proofs.lemmas.Bool.{cases_Bool, or_parts}
use Rattle.std.proofs.lemmas.Grind.{common_steps}
use Rattle.std.proofs.lemmas.Map.Keys.{IsDistinct-head, IsDistinct-tail}
use Rattle.am_universe.specs.Text.{same_text}
use Rattle.am_universe.specs.Universe.{Label, names}
use Rattle.am_universe.specs.LabelSet.{HasTextsAlone, LabelMap, label_pairs, label_set_of, value_at}
use Rattle.am_universe.specs.LabelSet.{value_of, with_label, with_value}
use Rattle.am_universe.proofs.LabelMapLemmas.{HasTextsAlone-with_value, flips, inserted_at, removed_at}
use Rattle.am_universe.proofs.LabelPairLemmas.{AreOthers}
use Rattle.am_universe.proofs.LabelSetLemmas.{AreOthers-after, same_text-itself}
use Rattle.am_universe.proofs.ListLemmas.{IsIn, IsIn-map, AllByRecursion-at}
use Rattle.am_labels.proofs.Passing.{in_any}
use Rattle.am_list_files.specs.AlertsFile.{labels_of}
use Rattle.am_rule_outcomes.specs.ShownLabels.{has_name, fixed_shown, shown_labels}

abbrev pub Texts : Type 0
Texts = List (List ℕ × List ℕ)

abbrev pub HaveOwnNames : Texts → Type 0
HaveOwnNames texts = IsDistinct same_text (map (λ l. l.0) texts)

-- ---- The last text under a name counts.

-- the last text under a name, or another one if there is none
abbrev last_text : Texts → List ℕ → List ℕ → List ℕ
last_text [] name other = other
last_text (l ∷ texts) name other = last_text texts name (cond (same_text l.0 name) l.1 other)

abbrev with_texts : LabelMap → Texts → LabelMap
with_texts s texts = fold (λ t l. with_value t l.0 l.1) s texts

unwrapped : (b : Bool) (o p : Option (List ℕ))
    → unwrap_or (cond b o p) [] ≡ cond b (unwrap_or o []) (unwrap_or p [])
unwrapped true o p = refl
unwrapped false o p = refl

value_with : (s : LabelMap) (name text q : List ℕ)
    → value_of (with_value s name text) q ≡ cond (same_text name q) text (value_of s q)
value_with s name [] q =
    ap (λ o. unwrap_or o []) (removed_at s name q) ∙ unwrapped (same_text name q) None (get s q)
value_with s name (c ∷ cs) q =
    ap (λ o. unwrap_or o []) (inserted_at s name (c ∷ cs) q)
    ∙ unwrapped (same_text name q) (Some (c ∷ cs)) (get s q)

value_of_texts : (texts : Texts) (s : LabelMap) (name : List ℕ)
    → value_of (with_texts s texts) name ≡ last_text texts name (value_of s name)
value_of_texts [] s name = refl
value_of_texts (l ∷ texts) s name =
    value_of_texts texts (with_value s l.0 l.1) name
    ∙ ap (last_text texts name) (value_with s l.0 l.1 name)

last_joined : (xs ys : Texts) (name other : List ℕ)
    → last_text (xs ++ ys) name other ≡ last_text ys name (last_text xs name other)
last_joined [] ys name other = refl
last_joined (x ∷ xs) ys name other = last_joined xs ys name (cond (same_text x.0 name) x.1 other)

unnamed : (texts : Texts) (name other : List ℕ) → has_name texts name ≡ false
    → last_text texts name other ≡ other
unnamed [] name other none = refl
unnamed (l ∷ texts) name other none =
    let split = or_parts (same_text l.0 name) (has_name texts name) none in
    rw (split.0) (unnamed texts name other split.1)

-- ---- The labels that are fixed.

some_there : (c : ℕ) (cs : List ℕ) → (length (c ∷ cs) == 0) ≡ false
some_there c cs = grind (arith, common_steps)

-- no other label that is fixed has the name of the first
own_name : (key : List ℕ) (fixed : Texts)
    → AllByRecursion (λ y. same_text key y ≡ false) (map (λ l. l.0) fixed)
    → has_name (fixed_shown fixed) key ≡ false
own_name key [] fresh = refl
own_name key ((name, []) ∷ fixed) fresh = own_name key fixed fresh.1
own_name key ((name, c ∷ cs) ∷ fixed) fresh =
    rw (some_there c cs, nat_list_eq_equiv.symm name key, fresh.0) (own_name key fixed fresh.1)

not_named : (fixed : Texts) (name : List ℕ) → has_name fixed name ≡ false
    → has_name (fixed_shown fixed) name ≡ false
not_named [] name none = refl
not_named (l ∷ fixed) name none =
    grind (arith, common_steps, cases_Bool, or_parts, not_named fixed name)

fixed_text_of : (fixed : Texts) (l : List ℕ × List ℕ) → HaveOwnNames fixed → IsIn fixed l
    → last_text (fixed_shown fixed) l.0 [] ≡ l.1
fixed_text_of [] l own i = absurd i
fixed_text_of ((key, []) ∷ fixed) l own (inl same) =
    subst (λ (k : List ℕ × List ℕ). last_text (fixed_shown fixed) k.0 [] ≡ k.1) same
    (unnamed (fixed_shown fixed) key [] (own_name key fixed (IsDistinct-head _ _ _ own)))
fixed_text_of ((key, []) ∷ fixed) l own (inr later) =
    fixed_text_of fixed l (IsDistinct-tail _ _ _ own) later
fixed_text_of ((key, c ∷ cs) ∷ fixed) l own (inl same) =
    subst (λ (k : List ℕ × List ℕ). last_text (fixed_shown ((key, c ∷ cs) ∷ fixed)) k.0 [] ≡ k.1) same
    (rw (some_there c cs, same_text-itself key)
    (unnamed (fixed_shown fixed) key (c ∷ cs) (own_name key fixed (IsDistinct-head _ _ _ own))))
fixed_text_of ((key, c ∷ cs) ∷ fixed) l own (inr later) =
    let apart = AllByRecursion-at (λ y. same_text key y ≡ false) (map (λ k. k.0) fixed) l.0
    (IsDistinct-head _ _ _ own) (IsIn-map (λ k. k.0) fixed l later) in
    rw (some_there c cs, apart) (fixed_text_of fixed l (IsDistinct-tail _ _ _ own) later)

-- ---- The other labels.

-- labels that are kept by their names
kept_text : (keep : List ℕ → Bool) (texts : Texts) (name other : List ℕ)
    → last_text (filter (λ l. keep l.0) texts) name other
    ≡ cond (keep name) (last_text texts name other) other
kept_text keep [] name other = grind (arith, common_steps, cases_Bool)
kept_text keep (l ∷ texts) name other =
    grind (arith, common_steps, cases_Bool, bytes_decides, kept_text keep texts name)

-- no label has the name
no_pair : (u : List Label) (c name other : List ℕ) → AreOthers name u
    → last_text (label_pairs u c) name other ≡ other
no_pair [] c name other apart = refl
no_pair (l ∷ u) [] name other apart = refl
no_pair (l ∷ u) (p ∷ c) name other apart = by (value_at l p) (no_pair u c name other apart.1)
  where
    by : (o : Option (List ℕ)) → last_text (label_pairs u c) name other ≡ other
        → last_text (with_label l.name o (label_pairs u c)) name other ≡ other
    by None rest = rest
    by (Some text) rest =
        ap (λ b. last_text (label_pairs u c) name (cond b text other)) apart.0 ∙ rest

pair_text : (u : List Label) (c name : List ℕ) → IsDistinct same_text (names u)
    → last_text (label_pairs u c) name []
    ≡ unwrap_or (find (slice_cmp nat_cmp) name (label_pairs u c)) []
pair_text [] c name own = refl
pair_text (l ∷ u) [] name own = refl
pair_text (l ∷ u) (p ∷ c) name own =
    by (value_at l p) (pair_text u c name (IsDistinct-tail _ _ _ own))
  where
    by : (o : Option (List ℕ)) → last_text (label_pairs u c) name []
        ≡ unwrap_or (find (slice_cmp nat_cmp) name (label_pairs u c)) []
        → last_text (with_label l.name o (label_pairs u c)) name []
        ≡ unwrap_or (find (slice_cmp nat_cmp) name (with_label l.name o (label_pairs u c))) []
    by None rest = rest
    by (Some text) rest = elim (cases_Bool (same_text l.name name)) [
      | inl same ↦
          let others = subst (λ n. AreOthers n u) ((bytes_decides l.name name).0 same)
          (AreOthers-after l.name u (IsDistinct-head _ _ _ own)) in
          rw (last_text, flips name l.name, same) (no_pair u c name text others)
      | inr apart ↦ rw (last_text, flips name l.name, apart) rest
    ]

text_of_choice : (u : List Label) (c name : List ℕ) → IsDistinct same_text (names u)
    → last_text (label_pairs u c) name [] ≡ value_of (label_set_of u c) name
text_of_choice u c name own =
    pair_text u c name own
    ∙ sym (ap (λ o. unwrap_or o []) (get-from_entries nat_list_cmp_total (label_pairs u c) name))

-- ---- What is shown.

alone_with : (texts : Texts) (s : LabelMap) → HasTextsAlone s → HasTextsAlone (with_texts s texts)
alone_with [] s alone = alone
alone_with (l ∷ texts) s alone =
    alone_with texts (with_value s l.0 l.1) (HasTextsAlone-with_value s l.0 l.1 alone)

module _ (fixed : Texts) (u : List Label) (c : List ℕ) where
  abbrev pub shown_set : LabelMap
  shown_set = labels_of (shown_labels fixed u c)

  pub shown_alone : HasTextsAlone shown_set
  shown_alone = alone_with (shown_labels fixed u c) finite.empty (λ name e. cc (get-empty (slice_cmp nat_cmp) name))

  abbrev others : Texts
  others = filter (λ l. not (has_name fixed l.0)) (label_pairs u c)

  value_shown : (name : List ℕ) → value_of shown_set name
      ≡ cond (not (has_name fixed name)) (last_text (label_pairs u c) name (last_text (fixed_shown fixed) name []))
      (last_text (fixed_shown fixed) name [])
  value_shown name =
      value_of_texts (shown_labels fixed u c) finite.empty name
      ∙ ap (λ o. last_text (shown_labels fixed u c) name (unwrap_or o [])) (get-empty (slice_cmp nat_cmp) name)
      ∙ last_joined (fixed_shown fixed) others name []
      ∙ kept_text (λ n. not (has_name fixed n)) (label_pairs u c) name (last_text (fixed_shown fixed) name [])

  pub value_fixed : (l : List ℕ × List ℕ) → HaveOwnNames fixed → IsIn fixed l → value_of shown_set l.0 ≡ l.1
  value_fixed l own i =
      value_shown l.0
      ∙ ap (λ b. cond (not b) (last_text (label_pairs u c) l.0 (last_text (fixed_shown fixed) l.0 []))
      (last_text (fixed_shown fixed) l.0 []))
      (in_any (λ k. same_text k.0 l.0) fixed l i (same_text-itself l.0))
      ∙ fixed_text_of fixed l own i

  pub value_other : (name : List ℕ) → IsDistinct same_text (names u) → has_name fixed name ≡ false
      → value_of shown_set name ≡ value_of (label_set_of u c) name
  value_other name apart none =
      value_shown name
      ∙ rw (none, unnamed (fixed_shown fixed) name [] (not_named fixed name none))
      (text_of_choice u c name apart)
