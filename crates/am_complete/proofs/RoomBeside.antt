-- Labels that can stand in one universe beside those of a space, and why there is no room for them.
use Rattle.std.proofs.Common.{◌≡◌, ◌≢◌, ◌<◌, ◌≤◌, ◌+◌, ℕ, true, false, List, []}
use Rattle.std.proofs.Common.{◌∷◌, ◌++◌, length, map, take, Option, Some, None, Contains, refl, sym, ap}
use Rattle.std.proofs.Common.{◌∙◌, subst, inl, inr, arith, zero, suc, slice_get, lit≤, get_or, Bor}
use Rattle.std.proofs.Common.{String, string_bytes}
use Rattle.std.specs.Prelude.{unwrap_or, IsTrue}
use Rattle.std.specs.List.{find, filter, AllByRecursion, IsDistinct}
use Rattle.std.specs.Cmp.Lexicographic.{bytes_decides}
use Rattle.std.proofs.lemmas.Bool.{both_ways, cases_Bool, cond_both, and_parts, not-true}
use Rattle.std.specs.declared.alloc.Global.{Global}
use Rattle.std.proofs.lemmas.List.{length-map, length-append, append-nil, length-take-le}
use Rattle.std.proofs.lemmas.List.{map-append}
use Rattle.std.proofs.lemmas.Map.Keys.{IsDistinct-head, IsDistinct-tail}
use Rattle.std.proofs.lemmas.Option.{slice_get-map, slice_get-get_or, slice_get_within}
use Rattle.std.proofs.lemmas.Grind.{common_steps}
use Rattle.am_universe.proofs.DistinctLists.{all_push}
use Rattle.am_universe.specs.declared.limits.TheConstants.{MAX_VALUES}
use Rattle.am_universe.specs.Text.{same_text}
use Rattle.am_universe.specs.Universe.{Label, IsLabel, IsUniverse, names}
use Rattle.am_universe.proofs.ListLemmas.{IsIn, IsIn-split, IsIn-map, IsIn-unmap}
use Rattle.am_universe.proofs.ListLemmas.{IsIn-from_Contains, Contains-from_IsIn}
use Rattle.am_universe.proofs.ListLemmas.{AllByRecursion-at, AllByRecursion-each}
use Rattle.am_universe.proofs.Members.{in_at}
use Rattle.am_labels.specs.Space.{Space}
use Rattle.am_labels.proofs.Passing.{passes_from_kept}
use Rattle.am_classes.specs.declared.alphabet.Alphabet.{Alphabet}
use Rattle.am_complete.specs.Complete.{may_have}
use Rattle.am_complete.specs.AskedLabel.{AskedLabel, asked_names}
use Rattle.am_complete.specs.Covering.{standing_texts, standing_in, AreNeeded, IsWithLabel}
use Rattle.am_complete.specs.Covering.{IsFullFor}
use Rattle.am_complete.specs.declared.allowed_names.AllowedNames.{AllowedNames}
use Rattle.am_complete.specs.AllowedNames.{may_declare, MayHaveLabel}
use Rattle.am_complete.specs.Room.{HaveNoRoom, HasToBeDeclared}
use Rattle.am_complete.specs.LabelState.{is_declared}
use Rattle.am_complete.specs.Missing.{MissingTexts, IsMissingAt, AreMissing, texts_of_missing}
use Rattle.am_complete.specs.Missing.{missing_for, whole_texts, has_some, is_to_declare, IsWhole}
use Rattle.am_complete.specs.Missing.{names_to_declare, CanBeDeclared, AreTooLarge}
use Rattle.am_classes.proofs.AlikeLemmas.{alike_itself}
use Rattle.am_complete.proofs.ApartTexts.{distinct_where_apart}
use Rattle.am_complete.proofs.DeclaredLabels.{distinct_texts}
use Rattle.am_complete.proofs.LabelStates.{declared_where}
use Rattle.am_complete.proofs.LabelTexts.{has_name, found_in, some_names}
use Rattle.am_complete.proofs.MadeUniverses.{distinct_joined, by_name, finds_missing}
use Rattle.am_complete.proofs.MadeUniverses.{same_names, standing_of}
use Rattle.am_complete.proofs.ApartTexts.{one_distinct}
use Rattle.am_complete.proofs.NeededTexts.{first_needed}
use Rattle.am_complete.proofs.PossibleTexts.{distinct_kept}
use Rattle.am_complete.proofs.Pushed.{one_longer}

-- ---- The texts of a label.

-- the texts that stand in a space could be values
record CanStand (texts : List (List ℕ)) : Type 0 where
  pub distinct : IsDistinct same_text texts
  pub few : length texts ≤ MAX_VALUES

standing_can : (s : Space) (name : List ℕ) → IsUniverse s.labels → CanStand (standing_texts s name)
standing_can s name h = by (find (has_name name) s.labels) refl
  where
    by : (o : Option Label) → find (has_name name) s.labels ≡ o
        → CanStand (standing_in s.impossible name o)
    by None e =
        let test = may_have s.impossible name in
        record {
          distinct = distinct_kept same_text test ([] ∷ []) (one_distinct []);
          few = cond_both (test []) ([] ∷ []) [] (λ (xs : List (List ℕ)). length xs ≤ MAX_VALUES)
              (λ passes. lit≤ tt) (λ fails. lit≤ tt);
        }
    by (Some l) e =
        let is = AllByRecursion-at IsLabel s.labels l h.labels (found_in (λ k. k.name) name s.labels l e).0 in
        record {
          distinct = rw (← distinct_texts l.values is.texts) is.distinct;
          few = omega (arith, length-map l.values (λ v. unwrap_or v []), is.at_most);
        }

not_empty : (xs ys : List (List ℕ)) → ys ≢ [] → xs ++ ys ≢ []
not_empty [] ys some e = some e
not_empty (x ∷ xs) ys some e = cc

some_there : (texts : List (List ℕ)) → has_some texts ≡ true → (texts ≢ []) × (0 < length texts)
some_there [] e = absurd (cc)
some_there (t ∷ texts) e = (λ h. cc, omega arith)

module _ (a : Alphabet) (allowed : AllowedNames) (s : Space) (asked : List AskedLabel)
    (missing : List MissingTexts) (h : IsUniverse s.labels)
    (zip : AreMissing a allowed s asked missing)
    (distinct : IsDistinct same_text (asked_names asked)) where
  whole_distinct : (name : List ℕ) → IsDistinct same_text (whole_texts s missing name)
  whole_distinct name = by (missing_for missing name) refl
    where
      by : (o : Option MissingTexts) → missing_for missing name ≡ o
          → IsDistinct same_text (standing_texts s name ++ texts_of_missing o)
      by None e = rw append-nil (standing_can s name h).distinct
      by (Some m) e =
          let r = by_name a allowed s asked missing name m zip e in
          let needed = subst (λ n. AreNeeded a s n r.0.matchers m.texts) r.2 r.3.needed in
          distinct_joined (standing_texts s name) m.texts (standing_can s name h).distinct
          (distinct_where_apart r.0.matchers m.texts needed.possible.apart) (λ x i j.
          AllByRecursion-at _ m.texts x needed.new j
          (x, Contains-from_IsIn (standing_texts s name) x i, alike_itself r.0.matchers x))

  -- ---- The names.

  to_declare : (m : MissingTexts) → is_to_declare s.labels m ≡ true
      → (has_some m.texts ≡ true) × (is_declared s.labels m.name ≡ false) × (m.named ≡ true)
  to_declare m passes = grind (arith, common_steps, and_parts, not-true)

  asked_there : (name : List ℕ) → IsIn (names_to_declare s.labels missing) name
      → (m : MissingTexts) × IsIn missing m × (m.name ≡ name)
      × (has_some m.texts ≡ true) × (is_declared s.labels name ≡ false) × (m.named ≡ true)
  asked_there name i = grind (arith, common_steps, IsIn-unmap, passes_from_kept, to_declare)

  -- an entry is found by its name
  entry_named : (m : MissingTexts) → IsIn missing m
      → (l : AskedLabel) × IsIn asked l × IsMissingAt a allowed s l m
      × (missing_for missing m.name ≡ Some m)
  entry_named m i =
      let found = finds_missing a allowed s asked missing m zip distinct i in
      let r = by_name a allowed s asked missing m.name m zip found in (r.0, r.1, r.3, found)

  -- the labels beside those of the space have names that may be declared
  may_have_label : (name : List ℕ)
      → IsIn (names s.labels ++ names_to_declare s.labels missing) name
      → MayHaveLabel allowed s.labels name
  may_have_label name i =
      elim (IsIn-split (names s.labels) (names_to_declare s.labels missing) name i) [
        | inl here ↦ inl (Contains-from_IsIn (names s.labels) name here)
        | inr there ↦
            let r = asked_there name there in
            let l = (entry_named r.0 r.1).2 in
            inr (subst (λ n. IsTrue (may_declare allowed n)) (sym l.name ∙ r.2) (sym l.named ∙ r.5))
      ]

  pub names_allowed : (v : List Label)
      → names v ≡ names s.labels ++ names_to_declare s.labels missing
      → AllByRecursion (λ l. MayHaveLabel allowed s.labels l.name) v
  names_allowed v are =
      AllByRecursion-each (λ l. MayHaveLabel allowed s.labels l.name) v (λ l i.
      may_have_label l.name (subst (λ ns. IsIn ns l.name) are (IsIn-map (λ k. k.name) v l i)))

  -- the name of a label that lacks nothing is one of the space
  pub named_before : (name : List ℕ)
      → IsIn (names s.labels ++ names_to_declare s.labels missing) name
      → texts_of_missing (missing_for missing name) ≡ [] → Contains (names s.labels) name
  named_before name i none =
      elim (IsIn-split (names s.labels) (names_to_declare s.labels missing) name i) [
        | inl here ↦ Contains-from_IsIn (names s.labels) name here
        | inr there ↦
            let r = asked_there name there in
            let found : missing_for missing name ≡ Some r.0 =
            ap (missing_for missing) (sym r.2) ∙ (entry_named r.0 r.1).3 in
            absurd ((some_there r.0.texts r.3).0 (sym (ap texts_of_missing found) ∙ none))
      ]

  pub can_be_declared : AllByRecursion (CanBeDeclared s missing)
      (names s.labels ++ names_to_declare s.labels missing)
  can_be_declared =
      AllByRecursion-each (CanBeDeclared s missing)
      (names s.labels ++ names_to_declare s.labels missing) (λ name i.
      elim (IsIn-split (names s.labels) (names_to_declare s.labels missing) name i) [
        | inl here ↦ (
          some_names s.labels name h here,
          declared_some name here,
          whole_distinct name,
        )
        | inr there ↦ lacking name there
      ])
    where
      declared_some : (name : List ℕ) → IsIn (names s.labels) name → whole_texts s missing name ≢ []
      declared_some name here e =
          let k = IsIn-unmap (λ l. l.name) s.labels name here in
          let is = AllByRecursion-at IsLabel s.labels k.0 h.labels k.1 in
          let texts = standing_of s missing k.0 h k.1 in
          let none : length (whole_texts s missing k.0.name) ≡ 0 =
          ap (λ (xs : List (List ℕ)). length xs) (ap (whole_texts s missing) k.2 ∙ e) in
          omega (
            arith,
            none,
            is.some_value,
            length-append (standing_texts s k.0.name)
                (texts_of_missing (missing_for missing k.0.name)),
            ap (λ (xs : List (List ℕ)). length xs) texts,
            length-map k.0.values (λ v. unwrap_or v []),
          )

      lacking : (name : List ℕ) → IsIn (names_to_declare s.labels missing) name
          → CanBeDeclared s missing name
      lacking name there =
          let r = asked_there name there in
          let l = entry_named r.0 r.1 in
          let some = (some_there r.0.texts r.3).0 in
          let found : missing_for missing name ≡ Some r.0 =
          ap (missing_for missing) (sym r.2) ∙ l.3 in (
            subst (λ n. n ≢ []) (sym l.2.name ∙ r.2) l.2.some_name,
            λ e. not_empty (standing_texts s name) r.0.texts some
                (ap (λ o. standing_texts s name ++ texts_of_missing o) (sym found) ∙ e),
            whole_distinct name,
          )

  names_kept : (rest : List MissingTexts) → IsDistinct same_text (map (λ m. m.name) rest)
      → IsDistinct same_text (names_to_declare s.labels rest)
  unfolding IsDistinct
  names_kept [] d = tt
  names_kept (m ∷ rest) d =
      let kept = filter (is_to_declare s.labels) rest in
      cond_both (is_to_declare s.labels m) (m ∷ kept) kept
      (λ ms. IsDistinct same_text (map (λ k. k.name) ms)) (λ passes. (
        AllByRecursion-each (λ y. same_text m.name y ≡ false) (map (λ k. k.name) kept) (λ y i.
            let k = IsIn-unmap (λ n. n.name) kept y i in
            AllByRecursion-at (λ z. same_text m.name z ≡ false) (map (λ n. n.name) rest) y d.0
            (subst (IsIn (map (λ n. n.name) rest)) k.2
            (IsIn-map (λ n. n.name) rest k.0
            (passes_from_kept (is_to_declare s.labels) rest k.0 k.1).0))),
        names_kept rest d.1,
      )) (λ fails. names_kept rest d.1)

  beside_distinct : IsDistinct same_text (names_to_declare s.labels missing)
  beside_distinct =
      names_kept missing
      (subst (IsDistinct same_text) (sym (same_names a allowed s asked missing zip)) distinct)

  pub names_distinct : IsDistinct same_text (names s.labels ++ names_to_declare s.labels missing)
  names_distinct =
      grind (arith, common_steps, distinct_joined, beside_distinct, both_ways, asked_there, declared_where)

  -- ---- No room.

  -- the labels that are to be declared
  collected : (ls : List AskedLabel) (ms : List MissingTexts)
      → ((l : AskedLabel) → IsIn ls l → IsIn asked l) → AreMissing a allowed s ls ms
      → (labels : List AskedLabel) × (asked_names labels ≡ names_to_declare s.labels ms)
      × AllByRecursion (λ l. Contains asked l × HasToBeDeclared a allowed s l) labels
  collected [] [] among z = ([], refl, tt)
  collected [] (m ∷ ms) among z = absurd z
  collected (l ∷ ls) [] among z = absurd z
  collected (l ∷ ls) (m ∷ ms) among z =
      let rest = collected ls ms (λ k i. among k (inr i)) z.1 in
      elim (cases_Bool (is_to_declare s.labels m)) [
        | inl passes ↦
            let both = to_declare m passes in
            let some = some_there m.texts both.0 in
            rw passes (
              l ∷ rest.0,
              λ i. sym z.0.name i ∷ rest.1 i,
              (
                (
                  Contains-from_IsIn asked l (among l (inl refl)),
                  (
                    sym z.0.named ∙ both.2,
                    λ there. both_ways (is_declared s.labels l.name)
                        (ap (is_declared s.labels) (sym z.0.name) ∙ both.1)
                        (declared_where s.labels l.name
                        (IsIn-from_Contains (names s.labels) l.name there)),
                    first_needed a s l m.texts z.0.needed some.1,
                  ),
                ),
                rest.2,
              ),
            )
        | inr fails ↦ rw fails rest
      ]

  pub no_room : AreTooLarge s missing (names s.labels ++ names_to_declare s.labels missing)
      → HaveNoRoom a allowed s asked
  no_room (inl many) =
      let r = collected asked missing (λ l i. i) zip in
      let labels : List AskedLabel = r.0 in
      inr (
        labels,
        omega (
          arith,
          many,
          ap (λ (ns : List (List ℕ)). length ns) r.1,
          length-map labels (λ (l : AskedLabel). l.name),
          length-append (names s.labels) (names_to_declare s.labels missing),
          length-map s.labels (λ (l : Label). l.name),
        ),
        r.2,
        subst (IsDistinct same_text) (sym r.1) beside_distinct,
      )
  no_room (inr large) = by (missing_for missing large.0) refl large.2
    where
      by : (o : Option MissingTexts) → missing_for missing large.0 ≡ o
          → MAX_VALUES < length (standing_texts s large.0 ++ texts_of_missing o)
          → HaveNoRoom a allowed s asked
      by None e long =
          let none : List (List ℕ) = [] in
          absurd (omega (
            arith,
            long,
            (standing_can s large.0 h).few,
            length-append (standing_texts s large.0) none,
          ))
      by (Some m) e long =
          let r = by_name a allowed s asked missing large.0 m zip e in
          let may = may_have_label large.0
          (IsIn-from_Contains (names s.labels ++ names_to_declare s.labels missing) large.0 large.1) in
          inl (
            r.0,
            Contains-from_IsIn asked r.0 r.1,
            (
              m.texts,
              subst (MayHaveLabel allowed s.labels) (sym r.2) may,
              r.3.needed,
              subst (λ n. MAX_VALUES < length (standing_texts s n ++ m.texts)) (sym r.2) long,
            ),
          )

-- ---- One label after another.

pub name_at : (named : List (Bor (List ℕ))) (i : ℕ) (d : Bor (List ℕ)) → i < length named
    → slice_get (map (λ n. n.now) named) i ≡ Some (get_or named i d).now
name_at named i d lt = grind (arith, common_steps, slice_get-map, slice_get-get_or)

fresh_at : (ns : List (List ℕ)) (i : ℕ) (n : List ℕ) → IsDistinct same_text ns
    → slice_get ns i ≡ Some n → IsIn (take i ns) n → ⊥
fresh_at [] i n distinct at there = absurd (cc)
fresh_at (x ∷ ns) zero n distinct at there = there
fresh_at (x ∷ ns) (suc i) n distinct at (inl same) =
    both_ways (same_text x n)
    (AllByRecursion-at (λ y. same_text x y ≡ false) ns n (IsDistinct-head same_text x ns distinct)
    (in_at ns i n at))
    ((bytes_decides x n).1 same)
fresh_at (x ∷ ns) (suc i) n distinct at (inr later) =
    fresh_at ns i n (IsDistinct-tail same_text x ns distinct) at later

module _ (s : Space) (missing : List MissingTexts) (u : List Label) (ns : List (List ℕ)) (i : ℕ)
    (name : List ℕ) (texts : List (String Global)) (at : slice_get ns i ≡ Some name)
    (are : map string_bytes texts ≡ whole_texts s missing name)
    (so_far : names u ≡ take i ns) where
  pub names_more : (v : List Label) → IsWithLabel u v name (map string_bytes texts)
      → names v ≡ take (i + 1) ns
  names_more v more = grind (arith, common_steps, map-append, one_longer)

  pub whole_more : (v : List Label) → IsWithLabel u v name (map string_bytes texts)
      → AllByRecursion (IsWhole s missing) u → AllByRecursion (IsWhole s missing) v
  whole_more v more before = grind (arith, common_steps, all_push)

  -- if there is no room for the next label, the labels are too large
  pub too_large_at : IsDistinct same_text ns → AllByRecursion (CanBeDeclared s missing) ns
      → (name ≢ [] → (Contains (names u) name → ⊥) → texts ≢ []
      → IsDistinct same_text (map string_bytes texts) → IsFullFor u (map string_bytes texts))
      → AreTooLarge s missing ns
  too_large_at distinct can refused =
      by (refused here.0 fresh (λ none. here.1 (sym are ∙ ap (map string_bytes) none))
      (subst (IsDistinct same_text) (sym are) here.2))
    where
      here : CanBeDeclared s missing name
      here = AllByRecursion-at (CanBeDeclared s missing) ns name can (in_at ns i name at)

      fresh : Contains (names u) name → ⊥
      fresh there =
          fresh_at ns i name distinct at
          (subst (λ ms. IsIn ms name) so_far (IsIn-from_Contains (names u) name there))

      by : IsFullFor u (map string_bytes texts) → AreTooLarge s missing ns
      by (inl full) =
          let inside = slice_get_within ns i name at in
          inl (omega (
            arith,
            full,
            inside,
            length-map u (λ (l : Label). l.name),
            ap (λ (ms : List (List ℕ)). length ms) so_far,
            length-take-le i ns (omega (arith, inside)),
          ))
      by (inr many) =
          inr (
            name,
            Contains-from_IsIn ns name (in_at ns i name at),
            subst (λ ts. MAX_VALUES < length ts) are many,
          )
