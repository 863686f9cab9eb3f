-- The alerts that have some fixed labels, and the choices of a space that is narrowed to them:
-- each such alert meets the same matchers as some choice, and for each choice what is shown is such
-- an alert, which meets the same matchers.
use Rattle.std.proofs.Common.{◌≡◌, ◌≢◌, ◌<◌, ℕ, zero, suc, true, false, ◌++◌, length, List, [], ◌∷◌}
use Rattle.std.proofs.Common.{map, Option, Some, None, refl, sym, ap, ◌∙◌, subst, inl, inr, arith, slice_get, IsUtf8, nat_lt}
use Rattle.std.specs.Prelude.{unwrap_or, option_and_then, Contains}
use Rattle.std.specs.FinMap.{get}
use Rattle.std.specs.List.{AllByRecursion, AllZip, find, list_all}
use Rattle.std.specs.Cmp.Lexicographic.{bytes_decides}
use Rattle.std.proofs.lemmas.Bool.{both_ways, cases_Bool, and_parts}
use Rattle.std.proofs.lemmas.Bool.Decides.{nat_tests}
use Rattle.am_universe.specs.Text.{same_text}
use Rattle.am_universe.specs.Universe.{Label, Values, IsUniverse, names, sizes}
use Rattle.am_universe.specs.Choice.{admits, IsWhole}
use Rattle.am_universe.specs.LabelSet.{LabelMap, value_at, value_of, label_set_of}
use Rattle.am_universe.proofs.LabelSetLemmas.{value_of_declared, value_of_undeclared}
use Rattle.am_universe.proofs.ListLemmas.{IsIn, IsIn-unmap, IsIn-from_Contains, Contains-from_IsIn}
use Rattle.am_universe.proofs.ListLemmas.{AllByRecursion-at, AllByRecursion-each}
use Rattle.am_universe.proofs.Members.{at_in}
use Rattle.am_labels.specs.Matcher.{Matcher, all_hold, holds, condition_holds}
use Rattle.am_labels.specs.Space.{Space, IsChoiceOf}
use Rattle.am_labels.proofs.Passing.{any_in, in_any}
use Rattle.am_list_files.specs.AlertsFile.{labels_of}
use Rattle.am_classes.specs.declared.alphabet.Alphabet.{Alphabet}
use Rattle.am_classes.specs.Alphabet.{IsOver, is_over}
use Rattle.am_classes.specs.Alike.{AreAlike, HasAlikeIn}
use Rattle.am_classes.specs.Truths.{alike}
use Rattle.am_classes.proofs.AlikeLemmas.{alike_is}
use Rattle.am_classes.proofs.OverLemmas.{nil_over, over_from, is_over_from}
use Rattle.am_complete.specs.AskedLabel.{AskedLabel, IsAskedOf}
use Rattle.am_complete.specs.Complete.{about, label_texts, HasAlike}
use Rattle.am_complete.specs.Complete.{HaveSameMatchers, impossible_matchers}
use Rattle.am_complete.specs.LabelState.{is_declared}
use Rattle.am_complete.proofs.Alike.{about_is, is_about, only}
use Rattle.am_complete.proofs.AskedLabels.{not_asked, on_name}
use Rattle.am_complete.proofs.LabelTexts.{declared_texts, found_in, has_name, unnamed_texts}
use Rattle.am_complete.proofs.SameMatchers.{alike_among, same_by}
use Rattle.am_differences.proofs.ListTests.{each_passes, all_pass}
use Rattle.am_outcomes.proofs.MatchedPart.{choice_of_part, choice_there}
use Rattle.am_every_alert.specs.EveryAlert.{IsAlert, IsAlertOf, MeetsTheSame}
use Rattle.am_every_alert.specs.Deciding.{StandsFor, space_of}
use Rattle.am_every_alert.proofs.SpaceAlerts.{space_choice}
use Rattle.am_every_alert.proofs.TreatedAlike.{front_met, rest_met, same_possible}
use Rattle.am_every_alert.proofs.UniverseAlerts.{universe_alert}
use Rattle.am_rule_outcomes.specs.Narrowing.{matchers_on, fixed_text, narrowing, absence_stands}
use Rattle.am_rule_outcomes.specs.Narrowing.{are_over, kept_matchers, narrowed}
use Rattle.am_rule_outcomes.specs.ShownLabels.{shown_labels}
use Rattle.am_rule_outcomes.specs.ShownLabels as shown
use Rattle.am_rule_outcomes.proofs.ShownSets.{Texts, HaveOwnNames, shown_alone, value_fixed, value_other}
use Rattle.am_rule_outcomes.proofs.NarrowedLabels.{IsNarrowed, each_narrowed, fixed_there, there_fixed}
use Rattle.am_rule_outcomes.proofs.NarrowedLabels.{kept_fixed, kept_free, kept_text, matcher_there}
use Rattle.am_rule_outcomes.proofs.NarrowedLabels.{moved, moved_at, moved_whole, not_narrowed}

-- ---- The texts of choices.

-- a whole choice has a position of each label
whole_at : (u : List Label) (c : List ℕ) (i : ℕ) (l : Label) → IsWhole (sizes u) c
    → slice_get u i ≡ Some l
    → (p : ℕ) × (slice_get c i ≡ Some p) × (p < length l.values)
whole_at [] c i l whole at = absurd (cc)
whole_at (m ∷ u) [] i l whole at = absurd (omega (arith, whole.1))
whole_at (m ∷ u) (p ∷ c) zero l whole at =
    let same : m ≡ l = cc in
    let below = (and_parts (nat_lt p (length m.values)) (admits (sizes u) c) whole.0).0 in
    (p, refl, subst (λ (k : Label). p < length k.values) same (grind (arith, nat_tests)))
whole_at (m ∷ u) (p ∷ c) (suc i) l whole at =
    let rest = (and_parts (nat_lt p (length m.values)) (admits (sizes u) c) whole.0).1 in
    whole_at u c i l (rest, omega (arith, whole.1)) at

text_there : (values : Values) (p : ℕ) → p < length values
    → IsIn (map (λ v. unwrap_or v []) values)
    (unwrap_or (option_and_then (λ v. v) (slice_get values p)) [])
text_there [] p below = absurd (omega arith)
text_there (v ∷ values) zero below = inl refl
text_there (v ∷ values) (suc p) below = inr (text_there values p (omega arith))

not_named : (u : List Label) (name : List ℕ) → is_declared u name ≡ false
    → Contains (names u) name → ⊥
not_named u name none there =
    let l = IsIn-unmap (λ (l : Label). l.name) u name (IsIn-from_Contains (names u) name there) in
    both_ways (is_declared u name) none
    (in_any (has_name name) u l.0 l.1 ((bytes_decides l.0.name name).1 l.2))

-- the text of a choice is one of those of the label
choice_text : (u : List Label) (c name : List ℕ) → IsUniverse u → IsWhole (sizes u) c
    → IsIn (label_texts u name) (value_of (label_set_of u c) name)
choice_text u c name h whole = elim (cases_Bool (is_declared u name)) [
  | inl some ↦
      let l = any_in (has_name name) u some in
      let at = at_in u l.0 l.1 in
      let picked = whole_at u c at.0 l.0 whole at.1 in
      let value = value_of_declared u c at.0 l.0 picked.0 h at.1 picked.1 in
      subst (λ n. IsIn (label_texts u n) (value_of (label_set_of u c) n))
      ((bytes_decides l.0.name name).0 l.2)
      (rw (declared_texts u l.0 h l.1, value) (text_there l.0.values picked.0 picked.2))
  | inr none ↦
      let fresh = not_named u name none in
      rw (unnamed_texts u name fresh) (inl (sym (value_of_undeclared u c name fresh)))
]

-- what is met alike of matchers tells texts that are alike
met_alike : (ms : List Matcher) (set alert : LabelMap) (name : List ℕ) → MeetsTheSame ms set alert
    → AreAlike (about name ms) (value_of set name) (value_of alert name)
met_alike ms set alert name met =
    AllByRecursion-each
    (λ m. holds m.op m.value (value_of set name) ≡ holds m.op m.value (value_of alert name))
    (about name ms) (λ m i.
    let on = about_is name ms m i in
    subst (λ n. holds m.op m.value (value_of set n) ≡ holds m.op m.value (value_of alert n)) on.1
    (AllByRecursion-at (λ n. condition_holds set n ≡ condition_holds alert n) ms m met on.0))

-- the matchers that ask about a name are those that are about it
same_on : (asked : List AskedLabel) (ms : List Matcher) (name : List ℕ) → IsAskedOf asked ms
    → name ≢ [] → HaveSameMatchers (matchers_on asked name) (about name ms)
same_on asked ms name asks some = by (find (λ l. same_text l.name name) asked) refl
  where
    by : (o : Option AskedLabel) → find (λ l. same_text l.name name) asked ≡ o
        → HaveSameMatchers (matchers_on asked name) (about name ms)
    by None e =
        rw (e, not_asked asked ms name asks e some) (same_by [] [] (λ m i. i) (λ m i. i))
    by (Some l) e =
        let there = found_in (λ (k : AskedLabel). k.name) name asked l e in
        rw e (subst (λ n. HaveSameMatchers l.matchers (about n ms)) there.1
        (on_name asked ms l asks there.0 (λ empty. some (sym there.1 ∙ empty))))

-- the text of each label of an alert is over its alphabet
text_over : (a : Alphabet) (alert : LabelMap) (name : List ℕ) → IsAlert a alert
    → IsOver a (value_of alert name)
text_over a alert name is = by (get alert name) refl
  where
    by : (o : Option (List ℕ)) → get alert name ≡ o → IsOver a (unwrap_or o [])
    by None e = nil_over a
    by (Some text) e = (is name text e).1

-- a text that is not empty is there
some_got : (o : Option (List ℕ)) (text : List ℕ) → unwrap_or o [] ≡ text → text ≢ [] → o ≡ Some text
some_got None text e some = absurd (some (sym e))
some_got (Some t) text e some = ap Some e

-- ---- Alerts that have the fixed labels.

module _ (a : Alphabet) (s : Space) (u : List Label) (ms : List Matcher)
    (stands : StandsFor a (space_of s.impossible u) ms) (asked : List AskedLabel)
    (asks : IsAskedOf asked (ms ++ impossible_matchers s.impossible)) (fixed : Texts)
    (own : HaveOwnNames fixed) (named : AllByRecursion (λ l. l.0 ≢ []) fixed) where
  abbrev deciding : List Matcher
  deciding = ms ++ impossible_matchers s.impossible

  -- an alert counts, and has the labels that are fixed
  abbrev pub HasFixed : LabelMap → Type 0
  HasFixed alert = IsAlertOf a s alert × AllByRecursion (λ l. value_of alert l.0 ≡ l.1) fixed

  same_on_fixed : (l : List ℕ × List ℕ) → IsIn fixed l
      → HaveSameMatchers (matchers_on asked l.0) (about l.0 deciding)
  same_on_fixed l i =
      same_on asked deciding l.0 asks (AllByRecursion-at (λ k. k.0 ≢ []) fixed l named i)

  alert_alike : (alert : LabelMap) → IsAlertOf a s alert → (name : List ℕ)
      → HasAlike u deciding name (value_of alert name)
  alert_alike alert is name =
      let c = space_choice a (space_of s.impossible u) deciding alert stands.universe stands.complete is in
      let set = label_set_of u c.0 in (
        value_of set name,
        Contains-from_IsIn (label_texts u name) (value_of set name)
            (choice_text u c.0 name stands.universe c.1),
        met_alike deciding set alert name c.2,
      )

  -- ---- There are none, if the universe is not narrowed.

  module _ (alert : LabelMap) (has : HasFixed alert) where
    fixed_alike : (l : List ℕ × List ℕ) → IsIn fixed l
        → HasAlikeIn (matchers_on asked l.0) (label_texts u l.0) l.1
    fixed_alike l i =
        let value = AllByRecursion-at (λ k. value_of alert k.0 ≡ k.1) fixed l has.1 i in
        let r = subst (HasAlike u deciding l.0) value (alert_alike alert has.0 l.0) in (
          r.0,
          r.1,
          alike_among (matchers_on asked l.0) (about l.0 deciding) r.0 l.1 (same_on_fixed l i).there r.2,
        )

    pub fixed_over : are_over a fixed ≡ true
    fixed_over =
        all_pass (λ l. is_over a l.1) fixed (λ l i.
        is_over_from a l.1 (subst (IsOver a)
        (AllByRecursion-at (λ k. value_of alert k.0 ≡ k.1) fixed l has.1 i)
        (text_over a alert l.0 has.0.0)))

    pub absence_there : list_all (absence_stands asked u) fixed ≡ true
    absence_there =
        all_pass (absence_stands asked u) fixed (λ l i.
        elim (cases_Bool (is_declared u l.0)) [
          | inl declared ↦ rw declared refl
          | inr not_declared ↦
              let r = subst (λ texts. HasAlikeIn (matchers_on asked l.0) texts l.1)
              (unnamed_texts u l.0 (not_named u l.0 not_declared)) (fixed_alike l i) in
              rw not_declared (alike_is (matchers_on asked l.0) [] l.1
              (subst (λ x. AreAlike (matchers_on asked l.0) x l.1) (sym (only [] r.0 r.1)) r.2))
        ])

    pub not_none : narrowing asked fixed u ≡ None → ⊥
    not_none e =
        let r = not_narrowed asked fixed u e in
        let l = r.0 in
        let k = fixed_there fixed l.name r.2 r.3 in
        let on_name = subst (λ n. HasAlikeIn (matchers_on asked n) (label_texts u n) k.0.1) k.2
        (fixed_alike k.0 k.1) in
        let one = subst (HasAlikeIn (matchers_on asked l.name) (label_texts u l.name)) k.3 on_name in
        both_ways (alike (matchers_on asked l.name) one.0 r.2)
        (r.4 one.0 (subst (λ texts. IsIn texts one.0) (declared_texts u l stands.universe r.1)
        (IsIn-from_Contains (label_texts u l.name) one.0 one.1)))
        (alike_is (matchers_on asked l.name) one.0 r.2 one.2)

  -- ---- The universe is narrowed.

  module _ (ks : List (Option ℕ)) (is : narrowing asked fixed u ≡ Some ks)
      (absent : list_all (absence_stands asked u) fixed ≡ true) where
    abbrev pub left : Space
    left = narrowed (space_of s.impossible u) ks

    abbrev pub set_of : List ℕ → LabelMap
    set_of c = label_set_of u c

    each_kept : AllZip (IsNarrowed asked fixed) u ks
    each_kept = each_narrowed asked fixed u ks is

    -- each label that is fixed has one text there, which is alike to its own
    record OneText (l : List ℕ × List ℕ) : Type 0 where
      pub text : List ℕ
      pub alike : AreAlike (about l.0 deciding) text l.1
      pub there : (c : List ℕ) → IsChoiceOf left c → value_of (set_of c) l.0 ≡ text

    one_text : (l : List ℕ × List ℕ) → IsIn fixed l → OneText l
    one_text l i =
        let r = kept_text asked fixed u ks l.0 l.1 each_kept (there_fixed fixed l own i)
        (each_passes (absence_stands asked u) fixed absent l i) in
        record {
          text = r.kept;
          alike = alike_among (about l.0 deciding) (matchers_on asked l.0) r.kept l.1
              (same_on_fixed l i).back r.alike;
          there = λ c choice. elim r.asks [
            | inl asks ↦
                (bytes_decides (value_of (set_of c) l.0) r.kept).0
                (each_passes (condition_holds (set_of c)) (kept_matchers u ks)
                (choice_there (space_of s.impossible u) (kept_matchers u ks) c choice).1 _ asks)
            | inr none ↦ value_of_undeclared u c l.0 (not_named u l.0 none.0) ∙ sym none.1
          ];
        }

    -- ---- Each alert has a choice.

    module _ (alert : LabelMap) (has : HasFixed alert) where
      -- a choice that meets the same of all matchers, and the one with the texts that are kept
      met : (c : List ℕ) × IsWhole (sizes u) c × MeetsTheSame deciding (set_of c) alert
      met = space_choice a (space_of s.impossible u) deciding alert stands.universe stands.complete has.0

      abbrev kept : List ℕ
      kept = moved ks met.0

      kept_whole : IsWhole (sizes u) kept
      kept_whole = moved_whole asked fixed u ks met.0 each_kept met.1

      -- the text of a label there
      record TextAt (i : ℕ) (l : Label) : Type 0 where
        pub position : ℕ
        pub before : value_of (set_of met.0) l.name ≡ unwrap_or (value_at l position) []
        pub one : Option ℕ
        pub narrows : IsNarrowed asked fixed l one
        pub at : slice_get ks i ≡ Some one
        pub now : value_of (set_of kept) l.name ≡ unwrap_or (value_at l (unwrap_or one position)) []

      text_at : (i : ℕ) (l : Label) → slice_get u i ≡ Some l → TextAt i l
      text_at i l at =
          let p = whole_at u met.0 i l met.1 at in
          let k = moved_at asked fixed u ks met.0 i l p.0 each_kept at p.1 in
          record {
            position = p.0;
            before = value_of_declared u met.0 i l p.0 stands.universe at p.1;
            one = k.0;
            narrows = k.1;
            at = k.2;
            now = value_of_declared u kept i l (unwrap_or k.0 p.0) stands.universe at k.3;
          }

      -- it is alike to that of the alert
      declared_met : (m : Matcher) → IsIn deciding m → (i : ℕ) (l : Label) → slice_get u i ≡ Some l
          → l.name ≡ m.name → condition_holds (set_of kept) m ≡ condition_holds alert m
      declared_met m among i l at named = by (fixed_text fixed l.name) refl
        where
          t : TextAt i l
          t = text_at i l at

          by : (o : Option (List ℕ)) → fixed_text fixed l.name ≡ o
              → condition_holds (set_of kept) m ≡ condition_holds alert m
          by None e =
              let free = kept_free asked fixed l t.one t.narrows e in
              let same : value_of (set_of kept) l.name ≡ value_of (set_of met.0) l.name =
              t.now ∙ ap (λ k. unwrap_or (value_at l (unwrap_or k t.position)) []) free ∙ sym t.before in
              ap (holds m.op m.value)
              (subst (λ n. value_of (set_of kept) n ≡ value_of (set_of met.0) n) named same)
              ∙ AllByRecursion-at (λ n. condition_holds (set_of met.0) n ≡ condition_holds alert n)
              deciding m met.2 among
          by (Some text) e =
              let r = kept_fixed asked fixed l t.one text t.narrows e in
              let f = fixed_there fixed l.name text e in
              let value = AllByRecursion-at (λ k. value_of alert k.0 ≡ k.1) fixed f.0 has.1 f.1 in
              let of_alert : value_of alert m.name ≡ text =
              ap (value_of alert) (sym named ∙ sym f.2) ∙ value ∙ f.3 in
              let of_kept : value_of (set_of kept) m.name ≡ unwrap_or (value_at l r.0) [] =
              ap (value_of (set_of kept)) (sym named) ∙ t.now
              ∙ ap (λ k. unwrap_or (value_at l (unwrap_or k t.position)) []) r.1 in
              let alike = alike_among (about l.name deciding) (matchers_on asked l.name)
              (unwrap_or (value_at l r.0) []) text
              (subst (λ n. HaveSameMatchers (matchers_on asked n) (about n deciding)) f.2
              (same_on_fixed f.0 f.1)).back r.3 in
              ap (holds m.op m.value) of_kept
              ∙ AllByRecursion-at
              (λ n. holds n.op n.value (unwrap_or (value_at l r.0) []) ≡ holds n.op n.value text)
              (about l.name deciding) m alike (is_about l.name deciding m among (sym named))
              ∙ ap (holds m.op m.value) (sym of_alert)

      all_met : MeetsTheSame deciding (set_of kept) alert
      all_met =
          AllByRecursion-each (λ m. condition_holds (set_of kept) m ≡ condition_holds alert m) deciding
          (λ m among. elim (cases_Bool (is_declared u m.name)) [
            | inl some ↦
                let l = any_in (λ (l : Label). same_text l.name m.name) u some in
                let at = at_in u l.0 l.1 in
                declared_met m among at.0 l.0 at.1 ((bytes_decides l.0.name m.name).0 l.2)
            | inr none ↦
                let fresh = not_named u m.name none in
                ap (holds m.op m.value)
                (value_of_undeclared u kept m.name fresh ∙ sym (value_of_undeclared u met.0 m.name fresh))
                ∙ AllByRecursion-at (λ n. condition_holds (set_of met.0) n ≡ condition_holds alert n)
                deciding m met.2 among
          ])

      -- it has the texts that are kept
      has_kept : all_hold (set_of kept) (kept_matchers u ks) ≡ true
      has_kept =
          all_pass (condition_holds (set_of kept)) (kept_matchers u ks) (λ m among.
          let r = matcher_there u ks m among in
          let t = text_at r.0 r.1 r.3 in
          let same : Some t.one ≡ Some (Some r.2) = sym t.at ∙ r.4 in
          let is : t.one ≡ Some r.2 = cc in
          let value : value_of (set_of kept) r.1.name ≡ unwrap_or (value_at r.1 r.2) [] =
          t.now ∙ ap (λ k. unwrap_or (value_at r.1 (unwrap_or k t.position)) []) is in
          subst (λ n. condition_holds (set_of kept) n ≡ true) r.5
          ((bytes_decides (value_of (set_of kept) r.1.name) (unwrap_or (value_at r.1 r.2) [])).1 value))

      pub choice_of_rule_alert : (c : List ℕ) × IsChoiceOf left c × MeetsTheSame ms (set_of c) alert
      choice_of_rule_alert =
          let lists = impossible_matchers s.impossible in
          let possible = same_possible (set_of kept) alert s.impossible
          (rest_met (set_of kept) alert ms lists all_met) in (
            kept,
            choice_of_part (space_of s.impossible u) (kept_matchers u ks) kept
                (kept_whole, possible ∙ has.0.1) has_kept,
            front_met (set_of kept) alert ms lists all_met,
          )

    -- ---- What is shown for a choice is an alert that has the labels that are fixed.

    abbrev pub shown_of : List ℕ → LabelMap
    shown_of c = labels_of (shown_labels fixed u c)

    fixed_value : (c : List ℕ) (l : List ℕ × List ℕ) → IsIn fixed l → value_of (shown_of c) l.0 ≡ l.1
    fixed_value c l i = value_fixed fixed u c l own i

    shown_alike : (c : List ℕ) → IsChoiceOf left c → (m : Matcher) → IsIn deciding m
        → condition_holds (set_of c) m ≡ condition_holds (shown_of c) m
    shown_alike c choice m i = elim (cases_Bool (shown.has_name fixed m.name)) [
      | inl some ↦
          let l = any_in (λ k. same_text k.0 m.name) fixed some in
          let named_so = (bytes_decides l.0.0 m.name).0 l.2 in
          let one = one_text l.0 l.1 in
          let same : holds m.op m.value one.text ≡ holds m.op m.value l.0.1 =
          AllByRecursion-at (λ n. holds n.op n.value one.text ≡ holds n.op n.value l.0.1)
          (about l.0.0 deciding) m one.alike (is_about l.0.0 deciding m i (sym named_so)) in
          subst (λ n. holds m.op m.value (value_of (set_of c) n) ≡ holds m.op m.value (value_of (shown_of c) n))
          named_so
          (ap (holds m.op m.value) (one.there c choice) ∙ same
          ∙ ap (holds m.op m.value) (sym (fixed_value c l.0 l.1)))
      | inr none ↦
          ap (holds m.op m.value)
          (sym (value_other fixed u c m.name stands.universe.distinct none))
    ]

    shown_met : (c : List ℕ) → IsChoiceOf left c → MeetsTheSame deciding (set_of c) (shown_of c)
    shown_met c choice =
        AllByRecursion-each (λ m. condition_holds (set_of c) m ≡ condition_holds (shown_of c) m)
        deciding (shown_alike c choice)

    pub shown_meets : (c : List ℕ) → IsChoiceOf left c → MeetsTheSame ms (set_of c) (shown_of c)
    shown_meets c choice =
        front_met (set_of c) (shown_of c) ms (impossible_matchers s.impossible) (shown_met c choice)

    module _ (over : are_over a fixed ≡ true) (utf8 : AllByRecursion (λ l. IsUtf8 l.1) fixed) where
      shown_is_alert : (c : List ℕ) → IsAlert a (shown_of c)
      shown_is_alert c name text e = elim (cases_Bool (shown.has_name fixed name)) [
        | inl some ↦
            let l = any_in (λ k. same_text k.0 name) fixed some in
            let is : l.0.0 ≡ name = (bytes_decides l.0.0 name).0 l.2 in
            let value : l.0.1 ≡ text =
            sym (fixed_value c l.0 l.1) ∙ ap (value_of (shown_of c)) is ∙ ap (λ o. unwrap_or o []) e in (
              subst (λ n. n ≢ []) is (AllByRecursion-at (λ k. k.0 ≢ []) fixed l.0 named l.1),
              subst (IsOver a) value
                  (over_from a l.0.1 (AllByRecursion-at (λ k. IsUtf8 k.1) fixed l.0 utf8 l.1)
                  (each_passes (λ k. is_over a k.1) fixed over l.0 l.1)),
            )
        | inr none ↦
            universe_alert a u c stands.universe stands.over name text
            (some_got (get (set_of c) name) text
            (sym (value_other fixed u c name stands.universe.distinct none)
            ∙ ap (λ o. unwrap_or o []) e)
            (λ empty. shown_alone fixed u c name (e ∙ ap Some empty)))
      ]

      pub shown_has_fixed : (c : List ℕ) → IsChoiceOf left c → HasFixed (shown_of c)
      shown_has_fixed c choice =
          let lists = impossible_matchers s.impossible in
          let there = (choice_there (space_of s.impossible u) (kept_matchers u ks) c choice).0 in
          let possible = same_possible (set_of c) (shown_of c) s.impossible
          (rest_met (set_of c) (shown_of c) ms lists (shown_met c choice)) in (
            (shown_is_alert c, sym possible ∙ there.1),
            AllByRecursion-each (λ l. value_of (shown_of c) l.0 ≡ l.1) fixed (fixed_value c),
          )
