-- The labels of a universe that is narrowed: what is kept of them, and choices that have it.
use Rattle.std.proofs.Common.{◌≡◌, ◌⊎◌, ◌≤◌, ◌<◌, ℕ, zero, suc, get_or, Bool, true, false, cond, length, List, [], ◌∷◌}
use Rattle.std.proofs.Common.{Option, Some, None, option_map, refl, sym, ap, ◌∙◌, subst, inl, inr, arith, slice_get}
use Rattle.std.specs.Prelude.{option_and_then, unwrap_or, nat_lt, IfSome}
use Rattle.std.specs.List.{AllZip, find, position_or_len}
use Rattle.std.specs.Cmp.Lexicographic.{bytes_decides}
use Rattle.std.proofs.lemmas.Bool.{and_from, and_parts, cases_Bool, lt-ltb}
use Rattle.std.proofs.lemmas.Bool.Decides.{nat_tests}
use Rattle.std.proofs.lemmas.Grind.{common_steps}
use Rattle.std.proofs.lemmas.List.Quantifiers.{position-Some}
use Rattle.std.proofs.lemmas.Option.{slice_get-map, slice_get-get_or, slice_get_within}
use Rattle.am_universe.specs.Text.{same_text}
use Rattle.am_universe.specs.Universe.{Label, sizes}
use Rattle.am_universe.specs.Choice.{admits, IsWhole}
use Rattle.am_universe.specs.LabelSet.{value_at}
use Rattle.am_universe.proofs.ListLemmas.{IsIn}
use Rattle.am_labels.specs.declared.op.Op.TheVariants.{Equal}
use Rattle.am_labels.specs.Matcher.{Matcher}
use Rattle.am_classes.specs.Alike.{AreAlike}
use Rattle.am_classes.specs.Truths.{alike}
use Rattle.am_classes.proofs.AlikeLemmas.{is_alike}
use Rattle.am_complete.specs.AskedLabel.{AskedLabel}
use Rattle.am_complete.specs.Complete.{texts_of_label}
use Rattle.am_complete.specs.LabelState.{is_declared}
use Rattle.am_complete.proofs.LabelTexts.{found_in, finds_in}
use Rattle.am_rule_outcomes.specs.Narrowing.{matchers_on, fixed_text, alike_position, narrowing_at}
use Rattle.am_rule_outcomes.specs.Narrowing.{kept_before, narrowing, absence_stands, kept_matcher}
use Rattle.am_rule_outcomes.specs.Narrowing.{kept_matchers}
use Rattle.am_rule_outcomes.proofs.ShownSets.{Texts, HaveOwnNames}

-- ---- The text of a label that is fixed.

pub fixed_there : (fixed : Texts) (name text : List ℕ) → fixed_text fixed name ≡ Some text
    → (l : List ℕ × List ℕ) × IsIn fixed l × (l.0 ≡ name) × (l.1 ≡ text)
fixed_there fixed name text = by (find (λ l. same_text l.0 name) fixed) refl
  where
    by : (o : Option (List ℕ × List ℕ)) → find (λ l. same_text l.0 name) fixed ≡ o
        → option_map (λ l. l.1) o ≡ Some text
        → (l : List ℕ × List ℕ) × IsIn fixed l × (l.0 ≡ name) × (l.1 ≡ text)
    by None e same = absurd (cc)
    by (Some l) e same =
        let r = found_in (λ (k : List ℕ × List ℕ). k.0) name fixed l e in (l, r.0, r.1, cc)

pub there_fixed : (fixed : Texts) (l : List ℕ × List ℕ) → HaveOwnNames fixed → IsIn fixed l
    → fixed_text fixed l.0 ≡ Some l.1
there_fixed fixed l own i = ap (option_map (λ k. k.1)) (finds_in (λ k. k.0) fixed l own i)

-- ---- The position of a value that is alike.

not_past : (n m : ℕ) → cond (nat_lt n m) (Some n) None ≡ None → m ≤ n
not_past n m e = grind (arith, common_steps, nat_tests)

none_before_end : {X : Type 0} (test : X → Bool) (xs : List X) (x : X)
    → length xs ≤ position_or_len test xs → IsIn xs x → test x ≡ false
none_before_end test [] x past i = absurd i
none_before_end test (y ∷ xs) x past i = elim (cases_Bool (test y)) [
  | inl passes ↦ absurd (omega (arith, rw passes at past))
  | inr fails ↦ elim i [
    | inl same ↦ ap test (sym same) ∙ fails
    | inr later ↦ none_before_end test xs x (omega (arith, rw fails at past)) later
  ]
]

none_alike : (ms : List Matcher) (text : List ℕ) (label : Label) (x : List ℕ)
    → alike_position ms text label ≡ None → IsIn (texts_of_label (Some label)) x
    → alike ms x text ≡ false
none_alike ms text label x e i =
    none_before_end (λ t. alike ms t text) (texts_of_label (Some label)) x (not_past _ _ e) i

kept_value : (ms : List Matcher) (text : List ℕ) (label : Label) (i : ℕ)
    → alike_position ms text label ≡ Some i
    → (v : Option (List ℕ)) × (slice_get label.values i ≡ Some v) × AreAlike ms (unwrap_or v []) text
kept_value ms text label i e = by (slice_get label.values i) refl
  where
    texts : List (List ℕ)
    texts = texts_of_label (Some label)

    found : (i < length texts) × (alike ms (get_or texts i []) text ≡ true)
        × ((k : ℕ) → k < i → alike ms (get_or texts k []) text ≡ false)
    found = position-Some (λ t. alike ms t text) texts i [] e

    there : slice_get texts i ≡ Some (get_or texts i [])
    there = slice_get-get_or texts i [] found.0

    by : (o : Option (Option (List ℕ))) → slice_get label.values i ≡ o
        → (v : Option (List ℕ)) × (slice_get label.values i ≡ Some v)
        × AreAlike ms (unwrap_or v []) text
    by None at = absurd (cc (slice_get-map (λ v. unwrap_or v []) label.values i, there))
    by (Some v) at =
        let same : Some (unwrap_or v []) ≡ Some (get_or texts i []) =
        sym (slice_get-map (λ v. unwrap_or v []) label.values i ∙ ap (option_map (λ v. unwrap_or v [])) at)
        ∙ there in
        let is : get_or texts i [] ≡ unwrap_or v [] = cc in
        (v, at, is_alike ms (unwrap_or v []) text (subst (λ x. alike ms x text ≡ true) is found.1))

-- ---- A label that is narrowed.

narrowed_fixed : (ms : List Matcher) (text : List ℕ) (label : Label) (kept : Option ℕ)
    → narrowing_at ms (Some text) label ≡ Some kept
    → (j : ℕ) × (kept ≡ Some j) × (j < length label.values)
    × AreAlike ms (unwrap_or (value_at label j) []) text
narrowed_fixed ms text label kept = by (alike_position ms text label) refl
  where
    by : (o : Option ℕ) → alike_position ms text label ≡ o → option_map (λ i. Some i) o ≡ Some kept
        → (j : ℕ) × (kept ≡ Some j) × (j < length label.values)
        × AreAlike ms (unwrap_or (value_at label j) []) text
    by None e same = absurd (cc)
    by (Some j) e same =
        let r = kept_value ms text label j e in (
          j,
          cc,
          slice_get_within label.values j r.0 r.1,
          subst (λ (o : Option (Option (List ℕ))). AreAlike ms (unwrap_or (option_and_then (λ v. v) o) []) text)
              (sym r.1) r.2,
        )

-- ---- Each label of a universe is narrowed.

-- a choice, with the positions that are kept in place of its own
abbrev pub moved : List (Option ℕ) → List ℕ → List ℕ
moved [] c = c
moved (k ∷ ks) [] = []
moved (k ∷ ks) (p ∷ c) = unwrap_or k p ∷ moved ks c

module _ (asked : List AskedLabel) (fixed : Texts) where
  abbrev narrowing_of : Label → Option (Option ℕ)
  narrowing_of l = narrowing_at (matchers_on asked l.name) (fixed_text fixed l.name) l

  abbrev pub IsNarrowed : Label → Option ℕ → Type 0
  IsNarrowed l kept = narrowing_of l ≡ Some kept

  kept_parts : (o : Option (Option ℕ)) (rest : Option (List (Option ℕ))) (ks : List (Option ℕ))
      → kept_before o rest ≡ Some ks
      → (k : Option ℕ) × (all : List (Option ℕ)) × (o ≡ Some k) × (rest ≡ Some all) × (k ∷ all ≡ ks)
  kept_parts None rest ks e = absurd (cc)
  kept_parts (Some k) None ks e = absurd (cc)
  kept_parts (Some k) (Some all) ks e = (k, all, refl, refl, cc)

  pub each_narrowed : (u : List Label) (ks : List (Option ℕ)) → narrowing asked fixed u ≡ Some ks
      → AllZip IsNarrowed u ks
  each_narrowed [] [] e = tt
  each_narrowed [] (k ∷ ks) e = absurd (cc)
  each_narrowed (l ∷ u) ks e =
      let r = kept_parts (narrowing_of l) (narrowing asked fixed u) ks e in
      subst (AllZip IsNarrowed (l ∷ u)) r.4 (r.2, each_narrowed u r.1 r.3)

  -- no value of some label is alike to its text, if a universe is not narrowed
  abbrev pub HasNoAlike : Label → List ℕ → Type 0
  HasNoAlike l text = (x : List ℕ) → IsIn (texts_of_label (Some l)) x
      → alike (matchers_on asked l.name) x text ≡ false

  one_is_none : (o : Option (Option ℕ)) (rest : Option (List (Option ℕ))) → kept_before o rest ≡ None
      → (o ≡ None) ⊎ (rest ≡ None)
  one_is_none None rest e = inl refl
  one_is_none (Some k) None e = inr refl
  one_is_none (Some k) (Some all) e = absurd (cc)

  none_at : (l : Label) (fixed_as : Option (List ℕ))
      → narrowing_at (matchers_on asked l.name) fixed_as l ≡ None
      → (text : List ℕ) × (fixed_as ≡ Some text) × HasNoAlike l text
  none_at l None e = absurd (cc)
  none_at l (Some text) e = (
    text,
    refl,
    λ x i. none_alike (matchers_on asked l.name) text l x
        (none_mapped (alike_position (matchers_on asked l.name) text l) e) i,
  )
    where
      none_mapped : (o : Option ℕ) → option_map (λ i. Some i) o ≡ None → o ≡ None
      none_mapped None e = refl
      none_mapped (Some i) e = absurd (cc)

  pub not_narrowed : (u : List Label) → narrowing asked fixed u ≡ None
      → (l : Label) × IsIn u l × (text : List ℕ) × (fixed_text fixed l.name ≡ Some text)
      × HasNoAlike l text
  not_narrowed [] e = absurd (cc)
  not_narrowed (l ∷ u) e = elim (one_is_none (narrowing_of l) (narrowing asked fixed u) e) [
    | inl here ↦ let r = none_at l (fixed_text fixed l.name) here in (l, inl refl, r.0, r.1, r.2)
    | inr later ↦ let r = not_narrowed u later in (r.0, inr r.1, r.2, r.3, r.4)
  ]

  -- ---- What is kept of a label.

  -- a label that is fixed keeps a text that is alike to its own, and any other label keeps all
  pub kept_fixed : (l : Label) (k : Option ℕ) (text : List ℕ) → IsNarrowed l k
      → fixed_text fixed l.name ≡ Some text
      → (j : ℕ) × (k ≡ Some j) × (j < length l.values)
      × AreAlike (matchers_on asked l.name) (unwrap_or (value_at l j) []) text
  kept_fixed l k text is e =
      narrowed_fixed (matchers_on asked l.name) text l k
      (subst (λ o. narrowing_at (matchers_on asked l.name) o l ≡ Some k) e is)

  pub kept_free : (l : Label) (k : Option ℕ) → IsNarrowed l k → fixed_text fixed l.name ≡ None
      → k ≡ None
  kept_free l k is e =
      let free = subst (λ o. narrowing_at (matchers_on asked l.name) o l ≡ Some k) e is in cc

  -- so what is kept is there
  pub kept_within : (l : Label) (k : Option ℕ) → IsNarrowed l k → IfSome k (λ j. j < length l.values)
  kept_within l k is = by (fixed_text fixed l.name) refl
    where
      by : (o : Option (List ℕ)) → fixed_text fixed l.name ≡ o → IfSome k (λ j. j < length l.values)
      by None e = subst (λ o. IfSome o (λ j. j < length l.values)) (sym (kept_free l k is e)) tt
      by (Some text) e =
          let r = kept_fixed l k text is e in
          subst (λ o. IfSome o (λ j. j < length l.values)) (sym r.1) r.2

  more_kept : (l : Label) (k : Option ℕ) (u : List Label) (ks : List (Option ℕ)) (m : Matcher)
      → IsIn (kept_matchers u ks) m → IsIn (kept_matchers (l ∷ u) (k ∷ ks)) m
  more_kept l None u ks m i = i
  more_kept l (Some j) u ks m i = inr i

  first_kept : (l : Label) (k : Option ℕ) (j : ℕ) (u : List Label) (ks : List (Option ℕ))
      → k ≡ Some j → IsIn (kept_matchers (l ∷ u) (k ∷ ks)) (kept_matcher l j)
  first_kept l k j u ks is =
      subst (λ k. IsIn (kept_matchers (l ∷ u) (k ∷ ks)) (kept_matcher l j)) (sym is) (inl refl)

  -- a text that is alike to that of a label, and the matcher that asks for it; an undeclared label
  -- has none, and is absent
  pub record KeptText (u : List Label) (ks : List (Option ℕ)) (name text : List ℕ) : Type 0 where
    pub kept : List ℕ
    pub alike : AreAlike (matchers_on asked name) kept text
    pub asks : IsIn (kept_matchers u ks) (record { name = name; op = Equal; value = kept })
        ⊎ ((is_declared u name ≡ false) × (kept ≡ []))

  pub kept_text : (u : List Label) (ks : List (Option ℕ)) (name text : List ℕ)
      → AllZip IsNarrowed u ks → fixed_text fixed name ≡ Some text
      → absence_stands asked u (name, text) ≡ true → KeptText u ks name text
  kept_text [] ks name text each is stands = record {
    kept = [];
    alike = is_alike (matchers_on asked name) [] text stands;
    asks = inr (refl, refl);
  }
  kept_text (l ∷ u) [] name text each is stands = absurd each
  kept_text (l ∷ u) (k ∷ ks) name text each is stands = elim (cases_Bool (same_text l.name name)) [
    | inl same ↦
        let named = (bytes_decides l.name name).0 same in
        let r = kept_fixed l k text each.0 (ap (fixed_text fixed) named ∙ is) in
        let x = unwrap_or (value_at l r.0) [] in
        record {
          kept = x;
          alike = subst (λ n. AreAlike (matchers_on asked n) x text) named r.3;
          asks = inl (subst (λ n. IsIn (kept_matchers (l ∷ u) (k ∷ ks))
              (record { name = n; op = Equal; value = x })) named (first_kept l k r.0 u ks r.1));
        }
    | inr apart ↦
        let r = kept_text u ks name text each.1 is (rw apart at stands) in
        record {
          kept = r.kept;
          alike = r.alike;
          asks = elim r.asks [
            | inl there ↦ inl (more_kept l k u ks _ there)
            | inr none ↦ inr (rw apart none.0, none.1)
          ];
        }
  ]

  -- ---- Choices with what is kept.

  below : (k : Option ℕ) (p n : ℕ) → IfSome k (λ j. j < n) → nat_lt p n ≡ true
      → nat_lt (unwrap_or k p) n ≡ true
  below None p n within there = there
  below (Some j) p n within there = lt-ltb j n within

  pub moved_whole : (u : List Label) (ks : List (Option ℕ)) (c : List ℕ) → AllZip IsNarrowed u ks
      → IsWhole (sizes u) c → IsWhole (sizes u) (moved ks c)
  moved_whole [] [] c each whole = whole
  moved_whole [] (k ∷ ks) c each whole = absurd each
  moved_whole (l ∷ u) [] c each whole = absurd each
  moved_whole (l ∷ u) (k ∷ ks) [] each whole = absurd (omega (arith, whole.1))
  moved_whole (l ∷ u) (k ∷ ks) (p ∷ c) each whole =
      let both = and_parts (nat_lt p (length l.values)) (admits (sizes u) c) whole.0 in
      let rest = moved_whole u ks c each.1 (both.1, omega (arith, whole.1)) in (
        and_from (nat_lt (unwrap_or k p) (length l.values)) (admits (sizes u) (moved ks c))
            (below k p (length l.values) (kept_within l k each.0) both.0) rest.0,
        ap suc rest.1,
      )

  -- the position of a label, and what is kept of it
  pub moved_at : (u : List Label) (ks : List (Option ℕ)) (c : List ℕ) (i : ℕ) (l : Label) (p : ℕ)
      → AllZip IsNarrowed u ks → slice_get u i ≡ Some l → slice_get c i ≡ Some p
      → (k : Option ℕ) × IsNarrowed l k × (slice_get ks i ≡ Some k)
      × (slice_get (moved ks c) i ≡ Some (unwrap_or k p))
  moved_at [] ks c i l p each at there = absurd (cc)
  moved_at (m ∷ u) [] c i l p each at there = absurd each
  moved_at (m ∷ u) (k ∷ ks) [] i l p each at there = absurd (cc)
  moved_at (m ∷ u) (k ∷ ks) (q ∷ c) zero l p each at there =
      let same : m ≡ l = cc in
      let is : q ≡ p = cc in
      (k, subst (λ (n : Label). IsNarrowed n k) same each.0, refl, ap (λ n. Some (unwrap_or k n)) is)
  moved_at (m ∷ u) (k ∷ ks) (q ∷ c) (suc i) l p each at there =
      moved_at u ks c i l p each.1 at there

-- the label for which a matcher asks, and the position of its text
pub matcher_there : (u : List Label) (ks : List (Option ℕ)) (m : Matcher) → IsIn (kept_matchers u ks) m
    → (i : ℕ) × (l : Label) × (j : ℕ) × (slice_get u i ≡ Some l) × (slice_get ks i ≡ Some (Some j))
    × (kept_matcher l j ≡ m)
matcher_there [] ks m i = absurd i
matcher_there (l ∷ u) [] m i = absurd i
matcher_there (l ∷ u) (None ∷ ks) m i =
    let r = matcher_there u ks m i in (suc r.0, r.1, r.2, r.3, r.4, r.5)
matcher_there (l ∷ u) (Some j ∷ ks) m (inl same) = (zero, l, j, refl, refl, same)
matcher_there (l ∷ u) (Some j ∷ ks) m (inr i) =
    let r = matcher_there u ks m i in (suc r.0, r.1, r.2, r.3, r.4, r.5)
