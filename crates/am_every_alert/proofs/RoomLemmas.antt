-- If there is no room beside a space for the labels that matchers ask about, no universe that keeps
-- the labels of the space is complete.
use Rattle.std.proofs.Common.{◌≡◌, ◌≤◌, ◌≢◌, ℕ, List, [], ◌∷◌, ◌++◌, length, map, true, refl, sym}
use Rattle.std.proofs.Common.{ap, ◌∙◌, subst, inl, inr, arith, Contains, Option, Some, None}
use Rattle.std.specs.Prelude.{unwrap_or, IsTrue}
use Rattle.std.specs.List.{AllByRecursion, IsDistinct, find, list_any}
use Rattle.std.specs.Cmp.Lexicographic.{bytes_decides}
use Rattle.std.proofs.lemmas.Bool.{both_ways, cases_Bool, true_from_ne_false}
use Rattle.std.proofs.lemmas.Cmp.{nat_list_eq_equiv}
use Rattle.std.proofs.lemmas.List.{length-map, length-append, map-append}
use Rattle.std.proofs.lemmas.Map.Made.{length-le_from_is_member}
use Rattle.am_universe.specs.declared.limits.TheConstants.{MAX_VALUES}
use Rattle.am_universe.specs.Text.{same_text}
use Rattle.am_universe.specs.Universe.{Label, IsLabel, IsUniverse, names}
use Rattle.am_universe.proofs.DistinctLists.{all_push, distinct_front}
use Rattle.am_universe.proofs.ListLemmas.{IsIn, IsIn-left, IsIn-split, IsIn-unmap}
use Rattle.am_universe.proofs.ListLemmas.{IsIn-from_Contains, Contains-from_IsIn}
use Rattle.am_universe.proofs.ListLemmas.{AllByRecursion-at, AllByRecursion-each}
use Rattle.am_labels.specs.Matcher.{Matcher}
use Rattle.am_labels.specs.Space.{Space}
use Rattle.am_labels.proofs.Passing.{any_in, in_any}
use Rattle.am_classes.specs.declared.alphabet.Alphabet.{Alphabet}
use Rattle.am_classes.specs.Alphabet.{IsOver}
use Rattle.am_classes.specs.Alike.{HasAlikeIn}
use Rattle.am_classes.proofs.OverLemmas.{nil_over}
use Rattle.am_complete.specs.Complete.{label_texts, texts_of_label, may_have, IsSpaceComplete}
use Rattle.am_complete.specs.Complete.{about, AreAmong, impossible_matchers}
use Rattle.am_complete.specs.AskedLabel.{AskedLabel, asked_names, IsAskedOf}
use Rattle.am_complete.specs.Covering.{standing_texts, standing_in, AreNeeded, KeepsValues}
use Rattle.am_complete.specs.Covering.{KeepsLabels}
use Rattle.am_complete.specs.declared.allowed_names.AllowedNames.{AllowedNames}
use Rattle.am_complete.specs.Room.{HasToBeDeclared, HaveNoRoom}
use Rattle.am_classes.proofs.AlikeLemmas.{alike_turned}
use Rattle.am_classes.proofs.AlikeLemmas.{apart_pushed}
use Rattle.am_complete.proofs.ApartTexts.{apart_are_no_more}
use Rattle.am_complete.proofs.AskedLabels.{allowed_some, named_some, on_name, asked_for}
use Rattle.am_complete.proofs.LabelTexts.{has_name, texts_by, unnamed_texts}
use Rattle.am_complete.proofs.MadeUniverses.{distinct_joined}
use Rattle.am_complete.proofs.NeededTexts.{alike_standing}
use Rattle.am_complete.proofs.SameMatchers.{has_alike_among}

-- ---- A label has no more texts than a label may have.

most_texts : (u : List Label) (name : List ℕ) → IsUniverse u
    → length (label_texts u name) ≤ MAX_VALUES
most_texts u name h =
    texts_by (λ texts. length texts ≤ MAX_VALUES) u name (omega arith) (λ l i same.
    let few = (AllByRecursion-at IsLabel u l h.labels i).at_most in
    omega (arith, few, length-map l.values (λ v. unwrap_or v [])))

-- ---- A label that is kept.

kept_label : (u v : List Label) (name : List ℕ) (k : Label) → KeepsLabels u v
    → find (has_name name) u ≡ Some k
    → (m : Label) × (find (has_name name) v ≡ Some m) × KeepsValues k m
kept_label [] v name k keeps e = absurd (cc)
kept_label (l ∷ u) [] name k keeps e = absurd keeps
kept_label (l ∷ u) (m ∷ v) name k keeps e = elim (cases_Bool (has_name name l)) [
  | inl same ↦
      let found : Some l ≡ Some k = rw same at e in
      let first : l ≡ k = cc in
      let named : has_name name m ≡ true = ap (λ n. same_text n name) keeps.0.0 ∙ same in
      (m, rw named refl, subst (λ x. KeepsValues x m) first keeps.0)
  | inr differs ↦
      let named = ap (λ n. same_text n name) keeps.0.0 ∙ differs in
      let r = kept_label u v name k keeps.1 (rw differs at e) in (r.0, rw named r.1, r.2)
]

kept_names : (u v : List Label) → KeepsLabels u v
    → (rest : List (List ℕ)) × (names v ≡ names u ++ rest)
kept_names [] v keeps = (names v, refl)
kept_names (l ∷ u) [] keeps = absurd keeps
kept_names (l ∷ u) (m ∷ v) keeps =
    let r = kept_names u v keeps.1 in (r.0, λ i. keeps.0.0 i ∷ r.1 i)

module _ (a : Alphabet) (allowed : AllowedNames) (s : Space) (asked : List AskedLabel)
    (ms : List Matcher) (v : List Label) (keeps : KeepsLabels s.labels v) (asks : IsAskedOf asked ms)
    (complete : IsSpaceComplete a (record { labels = v; impossible = s.impossible }) ms) where
  has_each : (l : AskedLabel) (text : List ℕ) → IsIn asked l → l.name ≢ [] → IsOver a text
      → IsTrue (may_have s.impossible l.name text)
      → HasAlikeIn l.matchers (label_texts v l.name) text
  has_each l text i some over possible =
      has_alike_among l.matchers (about l.name ms) (label_texts v l.name) text
      (on_name asked ms l asks i some).there (complete l.name some text over possible)

  -- ---- It has the values that stand there, and those that it needs.

  as_many : (l : AskedLabel) (texts : List (List ℕ)) → IsIn asked l → l.name ≢ []
      → AreNeeded a s l.name l.matchers texts
      → length (standing_texts s l.name ++ texts) ≤ length (label_texts v l.name)
  as_many l texts i some needed = by (find (has_name l.name) s.labels) refl needed.new
    where
      each : AllByRecursion (HasAlikeIn l.matchers (label_texts v l.name)) texts
      each =
          AllByRecursion-each (HasAlikeIn l.matchers (label_texts v l.name)) texts (λ text j.
          has_each l text i some
          (AllByRecursion-at (IsOver a) texts text needed.possible.over j)
          (AllByRecursion-at (λ x. IsTrue (may_have s.impossible l.name x)) texts text
          needed.possible.possible j))

      by : (o : Option Label) → find (has_name l.name) s.labels ≡ o
          → AllByRecursion
          (λ text. HasAlikeIn l.matchers (standing_in s.impossible l.name o) text → ⊥) texts
          → length (standing_in s.impossible l.name o ++ texts) ≤ length (label_texts v l.name)
      by None e new = elim (cases_Bool (may_have s.impossible l.name [])) [
        | inl here ↦
            let apart = apart_pushed l.matchers texts [] needed.possible.apart (λ y j alike.
            AllByRecursion-at
            (λ text. HasAlikeIn l.matchers (standing_in s.impossible l.name None) text → ⊥) texts
            y new j (rw here
            ([], Contains-from_IsIn ([] ∷ []) [] (inl refl), alike_turned l.matchers y [] alike))) in
            let all = all_push (HasAlikeIn l.matchers (label_texts v l.name)) texts [] each
            (has_each l [] i some (nil_over a) here) in
            let few = apart_are_no_more l.matchers (texts ++ [] ∷ []) (label_texts v l.name) apart
            all in
            rw here
            (omega (arith, few, length-append texts ([] ∷ []), length-append ([] ∷ []) texts))
        | inr taken ↦
            rw taken
            (apart_are_no_more l.matchers texts (label_texts v l.name) needed.possible.apart each)
      ]
      by (Some k) e new =
          let m = kept_label s.labels v l.name k keeps e in
          let standing = texts_of_label (Some k) in
          let added = map (λ w. unwrap_or w []) m.2.1.0 in
          let are : label_texts v l.name ≡ standing ++ added =
          ap texts_of_label m.1 ∙ ap (map (λ w. unwrap_or w [])) m.2.1.1
          ∙ map-append (λ w. unwrap_or w []) k.values m.2.1.0 in
          let behind = AllByRecursion-each (HasAlikeIn l.matchers added) texts (λ text j.
          let one = AllByRecursion-at (HasAlikeIn l.matchers (label_texts v l.name)) texts text
          each j in
          elim (IsIn-split standing added one.0
          (subst (λ xs. IsIn xs one.0) are
          (IsIn-from_Contains (label_texts v l.name) one.0 one.1))) [
            | inl there ↦
                absurd (AllByRecursion-at (λ x. HasAlikeIn l.matchers standing x → ⊥) texts text
                new j (one.0, Contains-from_IsIn standing one.0 there, one.2))
            | inr there ↦ (one.0, Contains-from_IsIn added one.0 there, one.2)
          ]) in
          let few = apart_are_no_more l.matchers texts added needed.possible.apart behind in
          omega (
            arith,
            few,
            length-append standing texts,
            length-append standing added,
            ap (λ (xs : List (List ℕ)). length xs) are,
          )

  -- ---- A label that has to be declared is.

  module _ (among : AreAmong (impossible_matchers s.impossible) ms) where
    declared_where_needed : (l : AskedLabel) → IsIn asked l → HasToBeDeclared a allowed s l
        → list_any (same_text l.name) (names v) ≡ true
    declared_where_needed l i needs =
        true_from_ne_false (list_any (same_text l.name) (names v)) (λ absent.
        let some = allowed_some allowed l.name needs.0 in
        let lone = unnamed_texts v l.name (λ h.
        both_ways _ absent (in_any (same_text l.name) (names v) l.name
        (IsIn-from_Contains (names v) l.name h) ((bytes_decides l.name l.name).1 refl))) in
        let alone = unnamed_texts s.labels l.name needs.1 in
        let text : List ℕ = needs.2.0 in
        let needed = needs.2.1 in
        let possible = needed.possible.possible.0 in
        needed.new.0 (alike_standing s l text
        (asked_for s.impossible asked ms l asks among i some) possible
        (subst (λ xs. HasAlikeIn l.matchers xs text) (lone ∙ sym alone)
        (has_each l text i some needed.possible.over.0 possible))))

    -- a universe that keeps the labels and is complete has room for the labels that are asked about
    pub none_without_room : IsUniverse v → HaveNoRoom a allowed s asked → ⊥
    none_without_room h (inl many) =
        let l : AskedLabel = many.0 in
        let texts : List (List ℕ) = many.2.0 in
        let kept = kept_names s.labels v keeps in
        let some = named_some allowed v l.name h (elim many.2.1 [
          | inl there ↦
              inl (Contains-from_IsIn (names v) l.name (subst (λ ns. IsIn ns l.name) (sym kept.1)
              (IsIn-left (names s.labels) kept.0 l.name
              (IsIn-from_Contains (names s.labels) l.name there))))
          | inr may ↦ inr may
        ]) in
        let long = as_many l texts (IsIn-from_Contains asked l many.1) some many.2.2 in
        omega (arith, long, many.2.3, most_texts v l.name h)
    none_without_room h (inr many) =
        let labels : List AskedLabel = many.0 in
        let kept = kept_names s.labels v keeps in
        let wanted = names s.labels ++ asked_names labels in
        let has_to : (l : AskedLabel) → IsIn labels l → Contains asked l × HasToBeDeclared a allowed s l =
        λ l i. AllByRecursion-at (λ x. Contains asked x × HasToBeDeclared a allowed s x) labels l many.2 i in
        let front = distinct_front same_text (names s.labels) kept.0
        (subst (IsDistinct same_text) kept.1 h.distinct) in
        let distinct = distinct_joined (names s.labels) (asked_names labels) front many.3 (λ n i j.
        let l = IsIn-unmap (λ (x : AskedLabel). x.name) labels n j in
        (has_to l.0 l.1).1.1 (Contains-from_IsIn (names s.labels) l.0.name
        (subst (IsIn (names s.labels)) (sym l.2) i))) in
        let few = length-le_from_is_member nat_list_eq_equiv wanted (names v) distinct (λ q found.
        let n = any_in (same_text q) wanted found in
        let is : q ≡ n.0 = (bytes_decides q n.0).0 n.2 in
        subst (λ name. list_any (same_text name) (names v) ≡ true) (sym is)
        (elim (IsIn-split (names s.labels) (asked_names labels) n.0 n.1) [
          | inl i ↦
              in_any (same_text n.0) (names v) n.0
              (subst (λ ns. IsIn ns n.0) (sym kept.1) (IsIn-left (names s.labels) kept.0 n.0 i))
              ((bytes_decides n.0 n.0).1 refl)
          | inr i ↦
              let l = IsIn-unmap (λ (x : AskedLabel). x.name) labels n.0 i in
              let needs = has_to l.0 l.1 in
              subst (λ name. list_any (same_text name) (names v) ≡ true) l.2
              (declared_where_needed l.0 (IsIn-from_Contains asked l.0 needs.0) needs.1)
        ])) in
        omega (
          arith,
          few,
          many.1,
          h.at_most,
          length-append (names s.labels) (asked_names labels),
          length-map labels (λ (x : AskedLabel). x.name),
          length-map s.labels (λ (x : Label). x.name),
          length-map v (λ (x : Label). x.name),
        )
