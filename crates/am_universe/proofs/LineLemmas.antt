-- The text of a set determines its pairs, and the pairs determine the choice.
use Rattle.std.proofs.Common.{◌≡◌, ◌≢◌, ℕ, zero, suc, ◌<◌, Bool, true, false, cond, ◌==◌, nat_lt, List, [], ◌∷◌, ◌++◌, length, drop, get_or, Option, Some, None, ap, sym, ◌∙◌, refl, subst, arith, append_assoc}
use Rattle.std.specs.Ordering.{nat_cmp}
use Rattle.std.specs.Cmp.Lexicographic.{slice_cmp}
use Rattle.std.specs.List.{AllByRecursion, IsDistinct, list_all, flat_map}
use Rattle.std.specs.FinMap.{find}
use Rattle.std.proofs.lemmas.Bool.{and_parts, false≢true}
use Rattle.std.proofs.lemmas.Bool.Decides.{nat_tests}
use Rattle.std.proofs.lemmas.List.{length-map}
use Rattle.std.proofs.lemmas.Grind.{common_steps}
use Rattle.std.proofs.lemmas.Map.Keys.{IsDistinct-head, IsDistinct-tail}
use Rattle.am_universe.specs.Text.{label_value_escape, quoted_text, same_text}
use Rattle.am_universe.specs.Universe.{Label, Values, IsLabel, IsUniverse, HaveLabelNames, names, sizes, begins_label_name, continues_label_name, is_label_name, same_value}
use Rattle.am_universe.specs.Choice.{admits, IsWhole}
use Rattle.am_universe.specs.LabelSet.{value_at, with_label, label_pairs}
use Rattle.am_universe.specs.WrittenLabelSet.{pair_text, line}
use Rattle.am_universe.proofs.LabelPairLemmas.{none_of_others}
use Rattle.am_universe.proofs.LabelSetLemmas.{AreOthers-after, find_first, same_text-itself}
use Rattle.am_universe.proofs.SetTextLemmas.{Pairs, joined, joined-cons, following}
use Rattle.am_universe.proofs.LabelValueLemmas.{value_in}

-- ---- The text between quotes, and what follows.

abbrev Split : Type 0
Split = List ℕ × List ℕ

abbrev behind : ℕ → Split → Split
behind c s = (c ∷ s.0, s.1)

-- The text up to the closing quote, without escapes, and what follows. `after` says whether a
-- backslash is before the text.
abbrev unquoted : Bool → List ℕ → Split
unquoted after [] = ([], [])
unquoted true (c ∷ t) = behind (cond (c == 110) 10 c) (unquoted false t)
unquoted false (c ∷ t) = cond (c == 34) ([], t) (cond (c == 92) (unquoted true t) (behind c (unquoted false t)))

unquoted_one : (c : ℕ) (t : List ℕ) → unquoted false (label_value_escape c ++ t) ≡ behind c (unquoted false t)
unquoted_one c t = grind (arith, common_steps)

unquoted_all : (v t : List ℕ) → unquoted false (flat_map label_value_escape v ++ 34 ∷ t) ≡ (v, t)
unquoted_all [] t = refl
unquoted_all (c ∷ v) t = ap (unquoted false) (append_assoc (label_value_escape c) (flat_map label_value_escape v) (34 ∷ t)) ∙ unquoted_one c (flat_map label_value_escape v ++ 34 ∷ t) ∙ ap (behind c) (unquoted_all v t)

-- ---- A pair, and what follows.

-- The text before the first `=`, and the text after it.
abbrev named : List ℕ → Split
named [] = ([], [])
named (c ∷ t) = cond (c == 61) ([], t) (behind c (named t))

no_equals : (c : ℕ) → continues_label_name c ≡ true → (c == 61) ≡ false
no_equals c h = grind (arith, nat_tests)

begins_continues : (c : ℕ) → begins_label_name c ≡ true → continues_label_name c ≡ true
begins_continues c h = grind (arith, nat_tests)

named_all : (name t : List ℕ) → list_all continues_label_name name ≡ true → named (name ++ 61 ∷ t) ≡ (name, t)
named_all [] t h = refl
named_all (c ∷ cs) t h = grind (arith, common_steps, no_equals, named_all cs t)

continues_all : (name : List ℕ) → is_label_name name ≡ true → list_all continues_label_name name ≡ true
continues_all [] h = absurd (false≢true h)
continues_all (c ∷ cs) h = grind (arith, common_steps, begins_continues)

abbrev paired : List ℕ → (List ℕ × List ℕ) × List ℕ
paired t =
    let name = named t in
    let value = unquoted false (drop 1 name.1) in
    ((name.0, value.0), value.1)

spread : (name value t : List ℕ) → pair_text (name, value) ++ t ≡ name ++ 61 ∷ 34 ∷ (flat_map label_value_escape value ++ 34 ∷ t)
spread name value t =
    append_assoc name (61 ∷ 34 ∷ (flat_map label_value_escape value ++ 34 ∷ [])) t ∙ ap (λ r. name ++ 61 ∷ 34 ∷ r) (append_assoc (flat_map label_value_escape value) (34 ∷ []) t)

paired_all : (name value t : List ℕ) → is_label_name name ≡ true → paired (pair_text (name, value) ++ t) ≡ ((name, value), t)
paired_all name value t h =
    let n : named (pair_text (name, value) ++ t) ≡ (name, 34 ∷ (flat_map label_value_escape value ++ 34 ∷ t)) = ap named (spread name value t) ∙ named_all name _ (continues_all name h) in
    let v : unquoted false (drop 1 (named (pair_text (name, value) ++ t)).1) ≡ (value, t) = ap (λ s. unquoted false (drop 1 s.1)) n ∙ unquoted_all value t in
    ap (λ s. ((s.0, (unquoted false (drop 1 (named (pair_text (name, value) ++ t)).1)).0), (unquoted false (drop 1 (named (pair_text (name, value) ++ t)).1)).1)) n
    ∙ ap (λ s. ((name, s.0), s.1)) v

-- ---- Pairs.

abbrev AreNamed : Pairs → Type 0
AreNamed ps = AllByRecursion (λ p. is_label_name p.0 ≡ true) ps

same_following : (ps qs : Pairs) (s t : List ℕ) → AreNamed ps → AreNamed qs → following ps ++ 125 ∷ s ≡ following qs ++ 125 ∷ t → ps ≡ qs
same_following [] [] s t h k e = refl
same_following [] (q ∷ qs) s t h k e = let first : ◌≡◌ {A = ℕ} 125 44 = ap (λ l. get_or l 0 0) e in absurd (omega arith)
same_following (p ∷ ps) [] s t h k e = let first : ◌≡◌ {A = ℕ} 44 125 = ap (λ l. get_or l 0 0) e in absurd (omega arith)
same_following (p ∷ ps) (q ∷ qs) s t h k e =
    let texts : pair_text p ++ (following ps ++ 125 ∷ s) ≡ pair_text q ++ (following qs ++ 125 ∷ t) =
    sym (append_assoc (pair_text p) (following ps) (125 ∷ s)) ∙ ap (drop 1) e ∙ append_assoc (pair_text q) (following qs) (125 ∷ t) in
    let both = sym (paired_all p.0 p.1 _ h.0) ∙ ap paired texts ∙ paired_all q.0 q.1 _ k.0 in
    let pair : p ≡ q = ap (λ x. x.0) both in
    let rest = same_following ps qs s t h.1 k.1 (ap (λ x. x.1) both) in
    λ i. pair i ∷ rest i

first_is_no_brace : (p : List ℕ × List ℕ) (t : List ℕ) → is_label_name p.0 ≡ true → get_or (pair_text p ++ t) 0 0 ≢ 125
first_is_no_brace p t h = elim (p.0) as (λ n. is_label_name n ≡ true → get_or ((n ++ (61 ∷ quoted_text p.1)) ++ t) 0 0 ≡ 125 → ⊥) [
  | [] ↦ λ h e. false≢true h
  | c ∷ cs ↦ λ h e. let starts = (and_parts (begins_label_name c) (list_all continues_label_name cs) h).0 in false≢true (subst (λ n. begins_label_name n ≡ true) e starts)
] h

same_joined : (ps qs : Pairs) (s t : List ℕ) → AreNamed ps → AreNamed qs → joined ps ++ 125 ∷ s ≡ joined qs ++ 125 ∷ t → ps ≡ qs
same_joined [] [] s t h k e = refl
same_joined [] (q ∷ qs) s t h k e =
    absurd (first_is_no_brace q (following qs ++ 125 ∷ t) k.0 (ap (λ l. get_or l 0 0) (sym (append_assoc (pair_text q) (following qs) (125 ∷ t)) ∙ sym (e ∙ ap (λ l. l ++ 125 ∷ t) (joined-cons q qs)))))
same_joined (p ∷ ps) [] s t h k e =
    absurd (first_is_no_brace p (following ps ++ 125 ∷ s) h.0 (ap (λ l. get_or l 0 0) (sym (append_assoc (pair_text p) (following ps) (125 ∷ s)) ∙ ap (λ l. l ++ 125 ∷ s) (sym (joined-cons p ps)) ∙ e)))
same_joined (p ∷ ps) (q ∷ qs) s t h k e =
    same_following (p ∷ ps) (q ∷ qs) s t h k (ap (λ l. 44 ∷ l) (ap (λ l. l ++ 125 ∷ s) (sym (joined-cons p ps)) ∙ e ∙ ap (λ l. l ++ 125 ∷ t) (joined-cons q qs)))

-- ---- Choices.

AreNamed-label_pairs : (u : List Label) (c : List ℕ) → HaveLabelNames u → AreNamed (label_pairs u c)
AreNamed-label_pairs [] c h = tt
AreNamed-label_pairs (l ∷ u) [] h = tt
AreNamed-label_pairs (l ∷ u) (p ∷ c) h = elim (value_at l p) as (λ o. AreNamed (with_label l.name o (label_pairs u c))) [
  | None ↦ AreNamed-label_pairs u c h.1
  | Some v ↦ (h.0, AreNamed-label_pairs u c h.1)
]

same_value-itself : (v : Option (List ℕ)) → same_value v v ≡ true
same_value-itself None = refl
same_value-itself (Some t) = same_text-itself t

apart_at : (v : Option (List ℕ)) (vs : Values) (q : ℕ) → AllByRecursion (λ y. same_value v y ≡ false) vs → q < length vs → v ≡ get_or vs q None → ⊥
apart_at v [] q h k e = omega arith
apart_at v (w ∷ vs) zero h k e = false≢true (sym h.0 ∙ ap (same_value v) (sym e) ∙ same_value-itself v)
apart_at v (w ∷ vs) (suc q) h k e = apart_at v vs q h.1 (omega arith) e

same_place : (vs : Values) (p q : ℕ) → IsDistinct same_value vs → p < length vs → q < length vs → get_or vs p None ≡ get_or vs q None → p ≡ q
same_place [] p q d h k e = absurd (omega arith)
same_place (v ∷ vs) zero zero d h k e = refl
same_place (v ∷ vs) zero (suc q) d h k e = absurd (apart_at v vs q (IsDistinct-head _ _ _ d) (omega arith) e)
same_place (v ∷ vs) (suc p) zero d h k e = absurd (apart_at v vs p (IsDistinct-head _ _ _ d) (omega arith) (sym e))
same_place (v ∷ vs) (suc p) (suc q) d h k e = ap suc (same_place vs p q (IsDistinct-tail _ _ _ d) (omega arith) (omega arith) e)

abbrev Find : List ℕ → Pairs → Option (List ℕ)
Find name ps = find (slice_cmp nat_cmp) name ps

same_others : (name : List ℕ) (v : Option (List ℕ)) (ps qs : Pairs) → with_label name v ps ≡ with_label name v qs → ps ≡ qs
same_others name None ps qs e = e
same_others name (Some v) ps qs e = ap (drop 1) e

-- If the pairs are equal, the first values are equal, and so are the other pairs.
same_before : (name : List ℕ) (v w : Option (List ℕ)) (ps qs : Pairs) → Find name ps ≡ None → Find name qs ≡ None → with_label name v ps ≡ with_label name w qs → (v ≡ w) × (ps ≡ qs)
same_before name v w ps qs h k e =
    let same : v ≡ w = sym (find_first name v ps h) ∙ ap (Find name) e ∙ find_first name w qs k in
    (same, same_others name v ps qs (e ∙ ap (λ o. with_label name o qs) (sym same)))

same_choice : (u : List Label) (c d : List ℕ) → AllByRecursion IsLabel u → IsDistinct same_text (names u) → admits (sizes u) c ≡ true → admits (sizes u) d ≡ true → length c ≡ length u → length d ≡ length u
    → label_pairs u c ≡ label_pairs u d → c ≡ d
same_choice [] [] [] labels apart h k whole also e = refl
same_choice [] (p ∷ c) d labels apart h k whole also e = absurd (omega arith)
same_choice [] [] (q ∷ d) labels apart h k whole also e = absurd (omega arith)
same_choice (l ∷ u) [] d labels apart h k whole also e = absurd (omega arith)
same_choice (l ∷ u) (p ∷ c) [] labels apart h k whole also e = absurd (omega arith)
same_choice (l ∷ u) (p ∷ c) (q ∷ d) labels apart h k whole also e =
    let others = AreOthers-after l.name u (IsDistinct-head _ _ _ apart) in
    let parts = same_before l.name (value_at l p) (value_at l q) (label_pairs u c) (label_pairs u d) (none_of_others u c l.name others) (none_of_others u d l.name others) e in
    let here = and_parts (nat_lt p (length l.values)) (admits (sizes u) c) h in
    let there = and_parts (nat_lt q (length l.values)) (admits (sizes u) d) k in
    let below : p < length l.values = grind (arith, nat_tests, here.0) in
    let under : q < length l.values = grind (arith, nat_tests, there.0) in
    let first : p ≡ q = same_place l.values p q labels.0.distinct below under (sym (value_in l.values p below) ∙ parts.0 ∙ value_in l.values q under) in
    let rest = same_choice u c d labels.1 (IsDistinct-tail _ _ _ apart) here.1 there.1 (omega arith) (omega arith) parts.1 in
    λ i. first i ∷ rest i

pub same_line : (u : List Label) (c d : List ℕ) → IsUniverse u → HaveLabelNames u → IsWhole (sizes u) c → IsWhole (sizes u) d → line u c ≡ line u d → c ≡ d
same_line u c d h named whole also e =
    let ps : Pairs = label_pairs u c in
    let qs : Pairs = label_pairs u d in
    let texts : joined ps ++ 125 ∷ 10 ∷ [] ≡ joined qs ++ 125 ∷ 10 ∷ [] =
    sym (append_assoc (joined ps) (125 ∷ []) (10 ∷ [])) ∙ ap (drop 1) e ∙ append_assoc (joined qs) (125 ∷ []) (10 ∷ []) in
    same_choice u c d h.labels h.distinct whole.0 also.0 (whole.1 ∙ length-map u (λ l. length l.values)) (also.1 ∙ length-map u (λ l. length l.values))
    (same_joined ps qs (10 ∷ []) (10 ∷ []) (AreNamed-label_pairs u c named) (AreNamed-label_pairs u d named) texts)
