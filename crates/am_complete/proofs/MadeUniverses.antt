-- Universes that are made beside a space, from what the labels that are asked about lack there.
use Rattle.std.proofs.Common.{◌≡◌, ◌≢◌, ◌<◌, ◌≤◌, ◌+◌, ℕ, List, [], ◌∷◌, ◌++◌, Bool, true, false}
use Rattle.std.proofs.Common.{not, length, map, Option, Some, None, Contains, refl, sym, ap, ◌∙◌}
use Rattle.std.proofs.Common.{subst, inl, inr, arith, slice_get, ◌||◌, ◌&&◌, ◌⊎◌}
use Rattle.std.specs.Prelude.{unwrap_or, IfSome}
use Rattle.std.specs.List.{find, filter, AllByRecursion, IsDistinct, enumerate_from}
use Rattle.std.specs.Option.{option_map_or}
use Rattle.std.specs.Cmp.Lexicographic.{bytes_decides}
use Rattle.std.proofs.lemmas.Bool.{both_ways, cases_Bool, and_from, and_parts, false_from_ne_true}
use Rattle.std.proofs.lemmas.Bool.{true_from_ne_false, not-true}
use Rattle.std.proofs.lemmas.List.{append-nil}
use Rattle.std.proofs.lemmas.Option.{slice_get_within}
use Rattle.std.proofs.lemmas.Grind.{common_steps}
use Rattle.am_universe.specs.Text.{same_text}
use Rattle.am_universe.specs.Universe.{Label, Values, IsLabel, IsUniverse, names, is_empty_text}
use Rattle.am_universe.proofs.ListLemmas.{IsIn, IsIn-left, IsIn-right, IsIn-map, IsIn-unmap}
use Rattle.am_universe.proofs.ListLemmas.{IsIn-from_Contains, Contains-from_IsIn, AllByRecursion-at}
use Rattle.am_universe.proofs.ListLemmas.{AllByRecursion-each}
use Rattle.am_universe.proofs.Members.{in_at, at_in, is_numbered, item_at, numbered_at}
use Rattle.am_labels.specs.Matcher.{Matcher}
use Rattle.am_labels.specs.Space.{Space}
use Rattle.am_labels.proofs.Passing.{passes_from_kept, kept_from_passes}
use Rattle.am_classes.specs.declared.alphabet.Alphabet.{Alphabet}
use Rattle.am_classes.specs.Alphabet.{IsOver, AreOver}
use Rattle.am_classes.proofs.OverLemmas.{nil_over}
use Rattle.am_complete.specs.Complete.{about, label_texts, texts_of_label, may_have}
use Rattle.am_complete.specs.Complete.{IsSpaceComplete}
use Rattle.am_complete.specs.AskedLabel.{AskedLabel, asked_names, IsAskedOf}
use Rattle.am_complete.specs.Covering.{standing_texts, standing_in, AreNeeded, CoverPossible}
use Rattle.am_complete.specs.Covering.{CoversEachBut, KeepsLabels, HasNeeded, AddsNeeded}
use Rattle.am_complete.specs.Covering.{HasTextsOver, AddsInOrder}
use Rattle.am_complete.specs.declared.allowed_names.AllowedNames.{AllowedNames}
use Rattle.am_complete.specs.Room.{AreUnproved, MayBeUnproved}
use Rattle.am_complete.specs.LabelState.{is_declared}
use Rattle.am_complete.specs.Missing.{MissingTexts, IsMissingAt, AreMissing, texts_of_missing}
use Rattle.am_complete.specs.Missing.{missing_for, IsWhole, has_some, is_to_declare, needs_label}
use Rattle.am_complete.specs.Missing.{is_covered, names_to_declare, open_positions, opens_from}
use Rattle.am_complete.proofs.AskedLabels.{on_name}
use Rattle.am_complete.proofs.SameMatchers.{cover_among, needed_among}
use Rattle.am_complete.proofs.CompleteUniverses.{space_complete_where_asked}
use Rattle.am_complete.proofs.LabelTexts.{has_name, finds_in, found_in, declared_texts}
use Rattle.am_complete.proofs.LabelTexts.{unnamed_texts}
use Rattle.am_complete.proofs.LabelStates.{declared_in, declared_where}
use Rattle.am_complete.proofs.NeededTexts.{standing_within, cover_weaker, none_needed, first_needed}
use Rattle.am_complete.proofs.PossibleTexts.{all_kept}
use Rattle.am_complete.proofs.Pushed.{zip_left, zip_right}

-- ---- Lists that are joined.

pub all_joined : {X : Type 0} (P : X → Type 0) (xs ys : List X) → AllByRecursion P xs
    → AllByRecursion P ys → AllByRecursion P (xs ++ ys)
all_joined P [] ys first last = last
all_joined P (x ∷ xs) ys first last = (first.0, all_joined P xs ys first.1 last)

pub distinct_joined : (xs ys : List (List ℕ)) → IsDistinct same_text xs → IsDistinct same_text ys
    → ((x : List ℕ) → IsIn xs x → IsIn ys x → ⊥) → IsDistinct same_text (xs ++ ys)
unfolding IsDistinct
distinct_joined [] ys first last apart = last
distinct_joined (x ∷ xs) ys first last apart = (
  all_joined (λ y. same_text x y ≡ false) xs ys first.0
      (AllByRecursion-each (λ y. same_text x y ≡ false) ys (λ y i.
      false_from_ne_true (same_text x y) (λ same.
      apart x (inl refl) (subst (IsIn ys) (sym ((bytes_decides x y).0 same)) i)))),
  distinct_joined xs ys first.1 last (λ y i j. apart y (inr i) j),
)

-- items are kept as what they are mapped to is
kept_mapped : {X Y : Type 0} (f : X → Y) (of : Y → Bool) (test : X → Bool) (xs : List X)
    → ((x : X) → IsIn xs x → of (f x) ≡ test x) → filter of (map f xs) ≡ map f (filter test xs)
kept_mapped f of test [] same = refl
kept_mapped f of test (x ∷ xs) same =
    let later = kept_mapped f of test xs (λ y i. same y (inr i)) in
    elim (cases_Bool (test x)) [
      | inl kept ↦ rw (same x (inl refl), kept) (ap (λ ys. f x ∷ ys) later)
      | inr left ↦ rw (same x (inl refl), left) later
    ]

-- ---- Which labels are open.

open_at : (missing : List MissingTexts) (i : ℕ) → Contains (open_positions missing) i
    → (m : MissingTexts) × (slice_get missing i ≡ Some m) × (is_covered m ≡ false)
open_at missing i h =
    let numbered = enumerate_from 0 missing in
    let p = IsIn-unmap (λ q. q.0) (filter (λ q. not (is_covered q.1)) numbered) i
    (IsIn-from_Contains (open_positions missing) i h) in
    let r = passes_from_kept (λ q. not (is_covered q.1)) numbered p.0 p.1 in (
      p.0.1,
      ap (slice_get missing) (sym p.2) ∙ item_at missing p.0 r.0,
      not-true (is_covered p.0.1) r.1,
    )

pub all_elsewhere : (missing : List MissingTexts) (i : ℕ) (m : MissingTexts)
    → slice_get missing i ≡ Some m → (Contains (open_positions missing) i → ⊥) → is_covered m ≡ true
all_elsewhere missing i m at fresh =
    true_from_ne_false (is_covered m) (λ some.
    let kept = filter (λ q. not (is_covered q.1)) (enumerate_from 0 missing) in
    fresh (Contains-from_IsIn (open_positions missing) i
    (IsIn-map (λ q. q.0) kept (i, m)
    (kept_from_passes (λ q. not (is_covered q.1)) (enumerate_from 0 missing) (i, m)
    (numbered_at 0 missing i m at i (omega arith)) (ap not some)))))

-- the first of the positions is the least
first_open : (from : ℕ) (missing : List MissingTexts) (i k : ℕ)
    → slice_get (opens_from from missing) 0 ≡ Some i → IsIn (opens_from from missing) k → i ≤ k
first_open from [] i k at h = absurd h
first_open from (m ∷ missing) i k at h = elim (cases_Bool (is_covered m)) [
  | inl all ↦ first_open (from + 1) missing i k (rw all at at) (rw all at h)
  | inr some ↦
      let here : Some from ≡ Some i = rw some at at in
      let is : from ≡ i = cc in
      let numbered = enumerate_from from (m ∷ missing) in
      let p = IsIn-unmap (λ q. q.0) (filter (λ q. not (is_covered q.1)) numbered) k h in
      let there = passes_from_kept (λ q. not (is_covered q.1)) numbered p.0 p.1 in
      let r = is_numbered from (m ∷ missing) p.0 there.0 in omega (arith, is, r.1, p.2)
]

-- ---- What the label of a name lacks.

module _ (a : Alphabet) (allowed : AllowedNames) (s : Space) where
  -- what is found by a name
  pub by_name : (asked : List AskedLabel) (missing : List MissingTexts) (name : List ℕ)
      (m : MissingTexts) → AreMissing a allowed s asked missing → missing_for missing name ≡ Some m
      → (l : AskedLabel) × IsIn asked l × (l.name ≡ name) × IsMissingAt a allowed s l m
  by_name asked missing name m zip e =
      let found = found_in (λ k. k.name) name missing m e in
      let at = at_in missing m found.0 in
      let l = zip_right (IsMissingAt a allowed s) asked missing at.0 m zip at.1 in
      (l.0, in_at asked at.0 l.0 l.1, sym l.2.name ∙ found.1, l.2)

  -- what a label lacks is found by its name
  pub same_names : (asked : List AskedLabel) (missing : List MissingTexts)
      → AreMissing a allowed s asked missing → map (λ m. m.name) missing ≡ asked_names asked
  same_names [] [] zip = refl
  same_names [] (m ∷ missing) zip = absurd zip
  same_names (l ∷ asked) [] zip = absurd zip
  same_names (l ∷ asked) (m ∷ missing) zip =
      λ i. zip.0.name i ∷ same_names asked missing zip.1 i

  pub finds_missing : (asked : List AskedLabel) (missing : List MissingTexts) (m : MissingTexts)
      → AreMissing a allowed s asked missing → IsDistinct same_text (asked_names asked) → IsIn missing m
      → missing_for missing m.name ≡ Some m
  finds_missing asked missing m zip distinct i =
      finds_in (λ k. k.name) missing m
      (subst (IsDistinct same_text) (sym (same_names asked missing zip)) distinct) i

  -- the labels that are added are in the order of those that are asked about
  pub in_order : (asked : List AskedLabel) (missing : List MissingTexts) (v : List Label)
      → AreMissing a allowed s asked missing → IsDistinct same_text (asked_names asked)
      → names v ≡ names s.labels ++ names_to_declare s.labels missing
      → AddsInOrder s.labels asked v
  in_order asked missing v zip distinct are =
      let added = λ (name : List ℕ).
      option_map_or (is_to_declare s.labels) (missing_for missing name) false in (
        added,
        are
            ∙ ap (λ ns. names s.labels ++ ns)
            (sym (kept_mapped (λ m. m.name) added (is_to_declare s.labels) missing (λ m i.
            ap (λ o. option_map_or (is_to_declare s.labels) o false)
            (finds_missing asked missing m zip distinct i)))
            ∙ ap (filter added) (same_names asked missing zip)),
      )

  needed_by_name : (asked : List AskedLabel) (missing : List MissingTexts) (ms : List Matcher)
      (name : List ℕ) → AreMissing a allowed s asked missing → IsAskedOf asked ms → name ≢ []
      → AreNeeded a s name (about name ms) (texts_of_missing (missing_for missing name))
  needed_by_name asked missing ms name zip asks some = by (missing_for missing name) refl
    where
      by : (o : Option MissingTexts) → missing_for missing name ≡ o
          → AreNeeded a s name (about name ms) (texts_of_missing o)
      by None e = none_needed a s name (about name ms)
      by (Some m) e =
          let r = by_name asked missing name m zip e in
          let same = on_name asked ms r.0 asks r.1 (λ empty. some (sym r.2 ∙ empty)) in
          subst (λ n. AreNeeded a s n (about n ms) m.texts) r.2
          (needed_among a s r.0.name r.0.matchers (about r.0.name ms) m.texts same.there r.3.needed)

  pub adds : (asked : List AskedLabel) (missing : List MissingTexts) (v : List Label)
      (ms : List Matcher) → AreMissing a allowed s asked missing → IsUniverse v
      → AllByRecursion (IsWhole s missing) v
      → ((name : List ℕ) → IsIn (names v) name
      → texts_of_missing (missing_for missing name) ≡ [] → Contains (names s.labels) name)
      → IsAskedOf asked ms → AddsNeeded a s ms v
  adds asked missing v ms zip universe whole named asks =
      AllByRecursion-each (HasNeeded a s ms) v (λ l i. (
        texts_of_missing (missing_for missing l.name),
        needed_by_name asked missing ms l.name zip asks
            (AllByRecursion-at IsLabel v l universe.labels i).name,
        AllByRecursion-at (IsWhole s missing) v l whole i,
        named l.name (IsIn-map (λ k. k.name) v l i),
      ))

  -- ---- The alphabet.

  values_over : (values : Values) → AreOver a (map (λ v. unwrap_or v []) values)
      → AllByRecursion (λ v. IfSome v (IsOver a)) values
  values_over [] over = tt
  values_over (None ∷ values) over = (tt, values_over values over.1)
  values_over (Some text ∷ values) over = (over.0, values_over values over.1)

  texts_over : (values : Values) → AllByRecursion (λ v. IfSome v (IsOver a)) values
      → AreOver a (map (λ v. unwrap_or v []) values)
  texts_over [] over = tt
  texts_over (None ∷ values) over = (nil_over a, texts_over values over.1)
  texts_over (Some text ∷ values) over = (over.0, texts_over values over.1)

  standing_over : (name : List ℕ) → HasTextsOver a s.labels → AreOver a (standing_texts s name)
  standing_over name over = by (find (has_name name) s.labels) refl
    where
      by : (o : Option Label) → find (has_name name) s.labels ≡ o
          → AreOver a (standing_in s.impossible name o)
      by None e = all_kept (IsOver a) (may_have s.impossible name) ([] ∷ []) (nil_over a, tt)
      by (Some l) e =
          texts_over l.values
          (AllByRecursion-at (λ k. AllByRecursion (λ v. IfSome v (IsOver a)) k.values) s.labels l
          over (found_in (λ k. k.name) name s.labels l e).0)

  missing_over : (asked : List AskedLabel) (missing : List MissingTexts) (name : List ℕ)
      → AreMissing a allowed s asked missing
      → AreOver a (texts_of_missing (missing_for missing name))
  missing_over asked missing name zip = grind (arith, common_steps, by_name)

  pub made_over : (asked : List AskedLabel) (missing : List MissingTexts) (v : List Label)
      → AreMissing a allowed s asked missing → AllByRecursion (IsWhole s missing) v
      → HasTextsOver a s.labels → HasTextsOver a v
  made_over asked missing v zip whole over =
      AllByRecursion-each (λ k. AllByRecursion (λ w. IfSome w (IsOver a)) k.values) v (λ l i.
      values_over l.values
      (subst (AreOver a) (sym (AllByRecursion-at (IsWhole s missing) v l whole i))
      (all_joined (IsOver a) (standing_texts s l.name)
      (texts_of_missing (missing_for missing l.name)) (standing_over l.name over)
      (missing_over asked missing l.name zip))))

  -- ---- What is covered.

  -- a label that lacks texts is declared, in the space or beside it
  named_beside : (missing : List MissingTexts) (m : MissingTexts) → IsIn missing m
      → needs_label m ≡ true → IsIn (names s.labels ++ names_to_declare s.labels missing) m.name
  named_beside missing m i needs = elim (cases_Bool (is_declared s.labels m.name)) [
    | inl declared ↦
        IsIn-left (names s.labels) (names_to_declare s.labels missing) m.name
        (declared_in s.labels m.name declared)
    | inr absent ↦
        IsIn-right (names s.labels) (names_to_declare s.labels missing) m.name
        (IsIn-map (λ k. k.name) (filter (is_to_declare s.labels) missing) m
        (kept_from_passes (is_to_declare s.labels) missing m i
        (and_from (needs_label m) (not (is_declared s.labels m.name)) needs (ap not absent))))
  ]

  -- a label that is covered, and lacks texts, has to be declared
  labelled : (m : MissingTexts) → is_covered m ≡ true → has_some m.texts ≡ true
      → needs_label m ≡ true
  labelled m covered some = grind (arith, common_steps, and_from, and_parts)

  none_there : (texts : List (List ℕ)) → has_some texts ≡ false → texts ≡ []
  none_there [] e = refl
  none_there (t ∷ texts) e = absurd (cc)

  -- the texts of a label that is declared
  whole_there : (missing : List MissingTexts) (v : List Label) (name : List ℕ) (m : MissingTexts)
      → IsUniverse v → AllByRecursion (IsWhole s missing) v → IsIn (names v) name
      → missing_for missing name ≡ Some m → label_texts v name ≡ standing_texts s name ++ m.texts
  whole_there missing v name m universe whole i found =
      grind (arith, common_steps, IsIn-unmap, declared_texts, AllByRecursion-at)

  -- and of one that is not declared, because it lacks none
  alone_there : (missing : List MissingTexts) (v : List Label) (l : AskedLabel)
      (m : MissingTexts) → names v ≡ names s.labels ++ names_to_declare s.labels missing
      → (Contains (names v) l.name → ⊥) → IsIn missing m → m.name ≡ l.name
      → is_covered m ≡ true
      → CoverPossible a s.impossible l.name l.matchers (standing_texts s l.name ++ m.texts)
      → CoverPossible a s.impossible l.name l.matchers (label_texts v l.name)
  alone_there missing v l m are fresh i named covered cover =
      let none = none_there m.texts (false_from_ne_true (has_some m.texts) (λ some.
      fresh (Contains-from_IsIn (names v) l.name (subst (λ ns. IsIn ns l.name) (sym are)
      (subst (IsIn (names s.labels ++ names_to_declare s.labels missing)) named
      (named_beside missing m i (labelled m covered some))))))) in
      let absent = unnamed_texts s.labels l.name (λ there.
      fresh (Contains-from_IsIn (names v) l.name (subst (λ ns. IsIn ns l.name) (sym are)
      (IsIn-left (names s.labels) (names_to_declare s.labels missing) l.name
      (IsIn-from_Contains (names s.labels) l.name there))))) in
      cover_weaker a s l (standing_texts s l.name) (label_texts v l.name) (λ x j.
      subst (λ ts. IsIn ts x) (absent ∙ sym (unnamed_texts v l.name fresh))
      (standing_within s l.name x j))
      (subst (CoverPossible a s.impossible l.name l.matchers)
      (ap (λ ts. standing_texts s l.name ++ ts) none ∙ append-nil (standing_texts s l.name)) cover)

  pub covers_each : (asked : List AskedLabel) (missing : List MissingTexts) (v : List Label)
      → AreMissing a allowed s asked missing → IsDistinct same_text (asked_names asked) → IsUniverse v
      → names v ≡ names s.labels ++ names_to_declare s.labels missing
      → AllByRecursion (IsWhole s missing) v
      → CoversEachBut a s.impossible v asked (open_positions missing)
  covers_each asked missing v zip distinct universe are whole i l at proved some =
      let r = zip_left (IsMissingAt a allowed s) asked missing i l zip at in
      let m : MissingTexts = r.0 in
      let covered = all_elsewhere missing i m r.1 proved in
      let cover = r.2.cover (and_parts m.all _ covered).0 in
      elim (cases_Bool (is_declared v l.name)) [
        | inl there ↦
            subst (CoverPossible a s.impossible l.name l.matchers)
            (sym (whole_there missing v l.name m universe whole (declared_in v l.name there)
            (ap (missing_for missing) (sym r.2.name)
            ∙ finds_missing asked missing m zip distinct (in_at missing i m r.1)))) cover
        | inr absent ↦
            alone_there missing v l m are (λ h.
            both_ways (is_declared v l.name) absent
            (declared_where v l.name (IsIn-from_Contains (names v) l.name h)))
            (in_at missing i m r.1) r.2.name covered cover
      ]

  pub complete : (asked : List AskedLabel) (v : List Label) (positions : List ℕ) → IsUniverse v
      → CoversEachBut a s.impossible v asked positions → positions ≡ [] → (ms : List Matcher)
      → IsAskedOf asked ms
      → IsSpaceComplete a (record { labels = v; impossible = s.impossible }) ms
  complete asked v positions universe covers none ms asks =
      space_complete_where_asked a (record { labels = v; impossible = s.impossible }) asked ms
      universe asks (λ l i some.
      let at = at_in asked l i in
      let cover = covers at.0 l at.1 (λ h. IsIn-from_Contains [] at.0 (rw none at h)) some in
      cover_among a s.impossible l.name (about l.name ms) l.matchers (label_texts v l.name)
      (on_name asked ms l asks i some).back cover)

  -- ---- What is unproved.

  unproved : (l : AskedLabel) (m : MissingTexts) → IsMissingAt a allowed s l m → is_covered m ≡ false
      → MayBeUnproved a allowed s l
  unproved l m h fails = elim (by m.all m.named m.texts fails) [
    | inl some ↦ inl (h.limits some)
    | inr r ↦ inr (h.some_name, sym h.named ∙ r.0, first_needed a s l m.texts h.needed r.1)
  ]
    where
      by : (all named : Bool) (texts : List (List ℕ))
          → (all && (named || not (has_some texts))) ≡ false
          → (all ≡ false) ⊎ ((named ≡ false) × (0 < length texts))
      by false named texts e = inl refl
      by true true texts e = absurd (cc)
      by true false [] e = absurd (cc)
      by true false (t ∷ texts) e = inr (refl, omega arith)

  pub are_unproved : (asked : List AskedLabel) (missing : List MissingTexts)
      → AreMissing a allowed s asked missing → AreUnproved a allowed s asked (open_positions missing)
  are_unproved asked missing zip = record {
    each = λ i h.
        let r = open_at missing i h in
        let l = zip_right (IsMissingAt a allowed s) asked missing i r.0 zip r.1 in (l.0, l.1, unproved l.0 r.0 l.2 r.2);
    first = λ i k at h.
        first_open 0 missing i k at (IsIn-from_Contains (open_positions missing) k h);
  }

  pub within_asked : (asked : List AskedLabel) (missing : List MissingTexts)
      → AreMissing a allowed s asked missing
      → AllByRecursion (λ i. i < length asked) (open_positions missing)
  within_asked asked missing zip =
      AllByRecursion-each (λ i. i < length asked) (open_positions missing) (λ i h.
      let r = open_at missing i (Contains-from_IsIn (open_positions missing) i h) in
      let l = zip_right (IsMissingAt a allowed s) asked missing i r.0 zip r.1 in slice_get_within asked i l.0 l.1)

-- ---- What is kept.

-- values that are not the empty text are the same if their texts are
same_values : (v w : Option (List ℕ)) → is_empty_text v ≡ false → is_empty_text w ≡ false
    → unwrap_or v [] ≡ unwrap_or w [] → v ≡ w
same_values None None full whole e = refl
same_values None (Some []) full whole e = absurd (cc)
same_values None (Some (c ∷ cs)) full whole e = absurd (cc)
same_values (Some []) w full whole e = absurd (cc)
same_values (Some (c ∷ cs)) None full whole e = absurd (cc)
same_values (Some (c ∷ cs)) (Some y) full whole e = ap Some e

values_kept : (vs ws : Values) (texts : List (List ℕ))
    → AllByRecursion (λ v. is_empty_text v ≡ false) vs
    → AllByRecursion (λ v. is_empty_text v ≡ false) ws
    → map (λ v. unwrap_or v []) ws ≡ map (λ v. unwrap_or v []) vs ++ texts
    → (added : Values) × (ws ≡ vs ++ added)
values_kept [] ws texts full whole are = (ws, refl)
values_kept (v ∷ vs) [] texts full whole are = absurd (cc)
values_kept (v ∷ vs) (w ∷ ws) texts full whole are =
    grind (arith, common_steps, values_kept vs ws texts, same_values)

module _ (s : Space) (missing : List MissingTexts) where
  keeps_each : (u v : List Label) (rest : List (List ℕ))
      → ((l : Label) → IsIn u l → standing_texts s l.name ≡ texts_of_label (Some l))
      → AllByRecursion IsLabel u → AllByRecursion IsLabel v → names v ≡ names u ++ rest
      → AllByRecursion (IsWhole s missing) v → KeepsLabels u v
  keeps_each [] v rest stands labels made are whole = tt
  keeps_each (l ∷ u) [] rest stands labels made are whole = absurd (cc)
  keeps_each (l ∷ u) (m ∷ v) rest stands labels made are whole =
      let named : m.name ≡ l.name = cc in
      let later : names v ≡ names u ++ rest = cc in
      let lacks = texts_of_missing (missing_for missing m.name) in
      let texts : texts_of_label (Some m) ≡ texts_of_label (Some l) ++ lacks =
      whole.0
      ∙ ap (λ ts. ts ++ lacks) (ap (standing_texts s) named ∙ stands l (inl refl)) in (
        (named, values_kept l.values m.values lacks labels.0.texts made.0.texts texts),
        keeps_each u v rest (λ k i. stands k (inr i)) labels.1 made.1 later whole.1,
      )

  pub standing_of : (l : Label) → IsUniverse s.labels → IsIn s.labels l
      → standing_texts s l.name ≡ texts_of_label (Some l)
  standing_of l h i = ap (standing_in s.impossible l.name) (finds_in (λ k. k.name) s.labels l h.distinct i)

  pub keeps : (v : List Label) → IsUniverse s.labels → IsUniverse v
      → names v ≡ names s.labels ++ names_to_declare s.labels missing
      → AllByRecursion (IsWhole s missing) v → KeepsLabels s.labels v
  keeps v h universe are whole = grind (arith, common_steps, keeps_each, standing_of)
