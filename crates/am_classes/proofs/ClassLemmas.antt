-- The named texts, one for each class of them, and the texts of the candidates stand for all
-- classes, one for each.
use Rattle.std.proofs.Common.{◌≡◌, ◌<◌, ℕ, ◌+◌, true, false, List, [], ◌∷◌, ◌++◌, Bool, ◌||◌, ◌⊎◌}
use Rattle.std.proofs.Common.{Some, slice_get, length, map, string_bytes, inl, inr, refl, subst}
use Rattle.std.proofs.Common.{sym, ap, ap₂, ◌∙◌, arith, Contains, String}
use Rattle.std.specs.List.{list_any, AllByRecursion, AllZip}
use Rattle.std.proofs.lemmas.Bool.{false_from_ne_true, cases_Bool}
use Rattle.std.proofs.lemmas.Slice.Eq.{bytes_eq-Decides}
use Rattle.std.proofs.lemmas.Grind.{common_steps}
use Rattle.am_universe.specs.Text.{same_text}
use Rattle.am_universe.proofs.ListLemmas.{IsIn, IsIn-left, IsIn-from_Contains, Contains-from_IsIn}
use Rattle.am_universe.proofs.ListLemmas.{AllByRecursion-at, AllByRecursion-each}
use Rattle.am_universe.proofs.Members.{at_in, in_at}
use Rattle.am_labels.specs.Matcher.{Matcher, holds}
use Rattle.am_labels.specs.Pattern.{finds}
use Rattle.am_labels.proofs.OperatorLemmas.{holds_same, asks_same, asks_pattern}
use Rattle.am_labels.proofs.Passing.{any_in, in_any}
use Rattle.am_scan.specs.Automaton.{pattern_of}
use Rattle.am_classes.specs.declared.questions.Questions.{Questions}
use Rattle.am_classes.specs.declared.candidate.Candidate.{Candidate}
use Rattle.am_classes.specs.declared.alphabet.Alphabet.{Alphabet}
use Rattle.am_classes.specs.Alphabet.{is_over, IsOver, AreOver}
use Rattle.am_classes.specs.Alike.{AreAlike, Covers, AreApart, HasAlikeIn}
use Rattle.am_classes.specs.Asked.{AreAsked}
use Rattle.am_classes.specs.Automata.{found_by}
use Rattle.am_classes.specs.Named.{names_texts, named_by}
use Rattle.am_classes.specs.Named.{AreEachOnce, named_over, other_patterns}
use Rattle.am_classes.specs.State.{named_texts, patterns_of, IsNamed}
use Rattle.am_classes.specs.Candidates.{AreApartCandidates, AreCandidates, AreTied}
use Rattle.am_classes.specs.Candidates.{IsCandidate, IsShortestFound}
use Rattle.am_classes.specs.ClassTexts.{IsClassText, IsShortest, Names, others}
use Rattle.am_classes.specs.LabelTests.{IsTestsOf}
use Rattle.am_classes.specs.Parts.{AskOf}
use Rattle.am_classes.specs.declared.label_tests.LabelTests.{LabelTests}
use Rattle.am_classes.specs.Truths.{AreNewIn}
use Rattle.am_classes.specs.declared.limits.TheConstants.{MAX_SAMPLE_NUMBERS}
use Rattle.am_classes.proofs.AlikeLemmas.{alike_turned}
use Rattle.am_classes.proofs.AskedLemmas.{all_known, among_cases, asks_named, is_pattern, named_in, named_from}
use Rattle.am_classes.proofs.AskedLemmas.{other_in, other_from}
use Rattle.am_classes.proofs.AutomataLemmas.{get_under, get_mapped}
use Rattle.am_classes.proofs.OverLemmas.{is_over_from, string_over}
use Rattle.am_scan.proofs.Places.{get_append, get_behind, contains_from_get}
use Rattle.am_scan.proofs.Places.{all_from_places}
use Rattle.am_classes.proofs.PlaceLemmas.{same_places, same_there}

-- Two texts get the same answers to the questions of matchers.
record SameAnswers (q : Questions) (x y : List ℕ) : Type 0 where
  texts : (k : ℕ) (named : List ℕ) → slice_get (named_texts q) k ≡ Some named → same_text x named ≡ same_text y named
  patterns : (k : ℕ) (pattern : List ℕ) → slice_get (patterns_of q) k ≡ Some pattern → finds pattern x ≡ finds pattern y

-- A text over an alphabet is not equal to a text that is not over it.
foreign_differs : (a : Alphabet) (value x : List ℕ) → is_over a value ≡ false → IsOver a x
    → same_text x value ≡ false
foreign_differs a value x foreign over = grind (arith, common_steps, false_from_ne_true, bytes_eq-Decides, is_over_from)

any_same : (x y : List ℕ) (vs : List (List ℕ))
    → ((v : List ℕ) → IsIn vs v → same_text x v ≡ same_text y v)
    → list_any (same_text x) vs ≡ list_any (same_text y) vs
any_same x y [] each = refl
any_same x y (v ∷ vs) each =
    ap₂ ◌||◌ (each v (inl refl)) (any_same x y vs (λ w i. each w (inr i)))

-- Texts with the same answers are alike.
module _ (ms : List Matcher) (q : Questions) (asked : AreAsked ms q) where
  alike_from : (x y : List ℕ) → IsOver q.alphabet x → IsOver q.alphabet y → SameAnswers q x y
      → AreAlike ms x y
  alike_from x y x_over y_over same =
      AllByRecursion-each (λ m. holds m.op m.value x ≡ holds m.op m.value y) ms
      (λ m i. holds_same m.op m.value x y (elim (cases_Bool (names_texts m)) [
        | inl names ↦
            asks_named m x names
            ∙ any_same x y (named_by m) (λ v named. elim (cases_Bool (is_over q.alphabet v)) [
              | inl over ↦
                  let wanted = at_in (named_over q.alphabet ms) v (named_in q.alphabet ms m v i named over) in
                  let place = asked.texts.each wanted.0 v wanted.1 in same.texts place.0 v place.1
              | inr foreign ↦
                  foreign_differs q.alphabet v x foreign x_over
                  ∙ sym (foreign_differs q.alphabet v y foreign y_over)
            ])
            ∙ sym (asks_named m y names)
        | inr other ↦
            let pattern = is_pattern m other (AllByRecursion-at _ ms m asked.only i) in
            let wanted = at_in (other_patterns ms) m.value (other_in ms m i other) in
            let place = asked.patterns.each wanted.0 m.value wanted.1 in
            asks_pattern m.op m.value x pattern ∙ same.patterns place.0 m.value place.1
            ∙ sym (asks_pattern m.op m.value y pattern)
      ]))

  -- The other patterns do not tell alike texts apart.
  patterns_same : (x y : List ℕ) → AreAlike ms x y → (k : ℕ) (pattern : List ℕ)
      → slice_get (patterns_of q) k ≡ Some pattern → finds pattern x ≡ finds pattern y
  patterns_same x y alike k pattern at =
      let wanted = asked.patterns.from k pattern at in
      let from = other_from ms pattern (in_at (other_patterns ms) wanted.0 pattern wanted.1) in
      let m = from.0 in
      let is = is_pattern m from.2 (AllByRecursion-at _ ms m asked.only from.1) in
      let here = AllByRecursion-at (λ m. holds m.op m.value x ≡ holds m.op m.value y) ms m alike from.1 in
      subst (λ v. finds v x ≡ finds v y) from.3
      (sym (asks_pattern m.op m.value x is) ∙ asks_same m.op m.value x y here
      ∙ asks_pattern m.op m.value y is)

  -- A text that is alike to a named text is named.
  named_alike : (x y : List ℕ) → IsNamed q x → IsOver q.alphabet y → AreAlike ms x y → IsNamed q y
  named_alike x y named over alike =
      let wanted = asked.texts.from named.0 x named.1 in
      let from = named_from q.alphabet ms x (in_at (named_over q.alphabet ms) wanted.0 x wanted.1) in
      let m = from.0 in
      let here = AllByRecursion-at (λ m. holds m.op m.value x ≡ holds m.op m.value y) ms m alike from.1 in
      let of_x = in_any (same_text x) (named_by m) x from.2 ((bytes_eq-Decides x x).1 refl) in
      let of_y : list_any (same_text y) (named_by m) ≡ true =
      sym (asks_named m y from.3) ∙ sym (asks_same m.op m.value x y here)
      ∙ asks_named m x from.3 ∙ of_x in
      let one = any_in (same_text y) (named_by m) of_y in
      let same : IsIn (named_by m) y = subst (IsIn (named_by m)) (sym ((bytes_eq-Decides y one.0).0 one.2)) one.1 in
      let again = at_in (named_over q.alphabet ms) y
      (named_in q.alphabet ms m y from.1 same (is_over_from q.alphabet y over)) in
      asked.texts.each again.0 y again.1

-- The same patterns find two texts: pattern by pattern, and as lists.
patterns_from_found : (q : Questions) (x y : List ℕ)
    → found_by q.automata.items x ≡ found_by q.automata.items y → (k : ℕ) (pattern : List ℕ)
    → slice_get (patterns_of q) k ≡ Some pattern → finds pattern x ≡ finds pattern y
patterns_from_found q x y same k pattern at =
    let scan = get_mapped pattern_of q.automata.items k pattern at in
    subst (λ p. finds p x ≡ finds p y) scan.2
    (same_there (λ s. finds (pattern_of s) x) (λ s. finds (pattern_of s) y) q.automata.items k scan.0 same scan.1)

pub found_from_patterns : (q : Questions) (x y : List ℕ)
    → ((k : ℕ) (pattern : List ℕ) → slice_get (patterns_of q) k ≡ Some pattern → finds pattern x ≡ finds pattern y)
    → found_by q.automata.items x ≡ found_by q.automata.items y
found_from_patterns q x y each =
    same_places 0 (λ s. finds (pattern_of s) x) (λ s. finds (pattern_of s) y) q.automata.items
    (all_from_places (λ s. finds (pattern_of s) x ≡ finds (pattern_of s) y) q.automata.items
    (λ k s at. each k (pattern_of s) (get_under pattern_of q.automata.items k s at)))

-- A text that is not named differs from each named text.
unnamed_differs : (q : Questions) (x : List ℕ) → (IsNamed q x → ⊥) → (k : ℕ) (named : List ℕ)
    → slice_get (named_texts q) k ≡ Some named → same_text x named ≡ false
unnamed_differs q x unnamed k named at = grind (arith, common_steps, false_from_ne_true, bytes_eq-Decides)

-- A text that is named, by the questions of matchers, is named by one of these.
names_from : (ms : List Matcher) (q : Questions) → AreAsked ms q → (x : List ℕ) → IsNamed q x
    → Names ms x
names_from ms q asked x named =
    let wanted = asked.texts.from named.0 x named.1 in
    let from = named_from q.alphabet ms x (in_at (named_over q.alphabet ms) wanted.0 x wanted.1) in
    (from.0, Contains-from_IsIn ms from.0 from.1, Contains-from_IsIn (named_by from.0) x from.2)

-- A shortest candidate is a shortest text of its class: a text alike to it is not named either.
shortest_from : (ms : List Matcher) (q : Questions) (c : Candidate) → AreAsked ms q
    → IsCandidate q c → IsShortestFound q c → IsShortest q.alphabet ms (string_bytes c.text)
shortest_from ms q c asked own shortest = λ x over alike.
    let text = string_bytes c.text in
    shortest x over
    (λ named. own.unnamed (named_alike ms q asked x text named own.over (alike_turned ms text x alike)))
    (sym (own.found ∙ found_from_patterns q text x (patterns_same ms q asked text x alike)))

-- The texts of the classes: one for each class of named texts, and those of the candidates.
abbrev pub class_texts : List (List ℕ) → List Candidate → List (List ℕ)
class_texts named cs = named ++ map (λ c. string_bytes c.text) cs

module _ (ms : List Matcher) (q : Questions) (named : List (List ℕ)) (cs : List Candidate)
    (asked : AreAsked ms q) (new : AreNewIn ms [] (named_texts q) named) where
  is_named : (x : List ℕ) (k : ℕ) → slice_get named k ≡ Some x → IsNamed q x
  is_named x k at =
      at_in (named_texts q) x (IsIn-from_Contains (named_texts q) x
      (AllByRecursion-at (Contains (named_texts q)) named x new.from (in_at named k x at)))

  pub classes_cover : AreCandidates q cs → Covers q.alphabet ms (class_texts named cs)
  classes_cover candidates = λ text over.
      elim (among_cases (named_texts q) text) [
        | inl there ↦
            let one = AllByRecursion-at (HasAlikeIn ms named) (named_texts q) text new.cover
            (in_at (named_texts q) there.0 text there.1) in (
              one.0,
              Contains-from_IsIn (class_texts named cs) one.0
                  (IsIn-left named _ one.0 (IsIn-from_Contains named one.0 one.1)),
              one.2,
            )
        | inr missed ↦
            let has = candidates.all text over (λ there. missed there.0 there.1) in
            let x = string_bytes has.1.text in
            let own = candidates.distinct.own has.0 has.1 has.2 in
            let behind = get_behind named (map (λ c. string_bytes c.text) cs) x has.0 (get_under (λ c. string_bytes c.text) cs has.0 has.1 has.2) in (
              x,
              contains_from_get (class_texts named cs) x (length named + has.0) behind,
              alike_from ms q asked x text own.over over (record {
                texts = λ k v at. unnamed_differs q x own.unnamed k v at ∙ sym (unnamed_differs q text (λ there. missed there.0 there.1) k v at);
                patterns = patterns_from_found q x text (sym own.found ∙ has.3);
              }),
            )
      ]

  -- No candidate is alike to a named text.
  kept_apart : AreApartCandidates q cs → (x y : List ℕ) (k j : ℕ) → slice_get named k ≡ Some x
      → slice_get (map (λ c. string_bytes c.text) cs) j ≡ Some y → AreAlike ms x y → ⊥
  kept_apart distinct x y k j at also alike =
      let c = get_mapped (λ c. string_bytes c.text) cs j y also in
      let own = distinct.own j c.0 c.1 in
      own.unnamed (subst (IsNamed q) (sym c.2)
      (named_alike ms q asked x y (is_named x k at) (subst (IsOver q.alphabet) c.2 own.over) alike))

  pub classes_apart : AreApartCandidates q cs → AreApart ms (class_texts named cs)
  classes_apart distinct = λ i j x y at also alike.
      elim (get_append named (map (λ c. string_bytes c.text) cs) x i at) [
        | inl a ↦ elim (get_append named (map (λ c. string_bytes c.text) cs) y j also) [
          | inl b ↦ new.apart i j x y a b alike
          | inr b ↦ absurd (kept_apart distinct x y i b.0 a b.2 alike)
        ]
        | inr a ↦ elim (get_append named (map (λ c. string_bytes c.text) cs) y j also) [
          | inl b ↦ absurd (kept_apart distinct y x j a.0 b a.2 (alike_turned ms x y alike))
          | inr b ↦
              let c = get_mapped (λ c. string_bytes c.text) cs a.0 x a.2 in
              let own = distinct.own a.0 c.0 c.1 in
              let d = get_mapped (λ c. string_bytes c.text) cs b.0 y b.2 in
              let other = distinct.own b.0 d.0 d.1 in
              let found = found_from_patterns q x y (patterns_same ms q asked x y alike) in
              let ofx : c.0.found.items ≡ found_by q.automata.items x = own.found ∙ ap (found_by q.automata.items) c.2 in
              let ofy : d.0.found.items ≡ found_by q.automata.items y = other.found ∙ ap (found_by q.automata.items) d.2 in
              let place = distinct.apart a.0 b.0 c.0 d.0 c.1 d.1 (ofx ∙ found ∙ sym ofy) in
              omega (arith, a.1, b.1, place)
        ]
      ]

  -- The texts of the classes are over the alphabet.
  pub classes_over : AreApartCandidates q cs → AreOver q.alphabet (class_texts named cs)
  classes_over distinct =
      all_from_places (IsOver q.alphabet) (class_texts named cs)
      (λ k x at. elim (get_append named (map (λ c. string_bytes c.text) cs) x k at) [
        | inl here ↦
            let there = is_named x k here in
            let text = get_mapped string_bytes q.texts.items there.0 x there.1 in
            let wanted = asked.texts.from there.0 x there.1 in
            let over = named_from q.alphabet ms x (in_at (named_over q.alphabet ms) wanted.0 x wanted.1) in
            subst (IsOver q.alphabet) text.2
            (string_over q.alphabet text.0 (ap (is_over q.alphabet) text.2 ∙ over.4))
        | inr behind ↦
            let c = get_mapped (λ c. string_bytes c.text) cs behind.0 x behind.2 in
            subst (IsOver q.alphabet) c.2 (distinct.own behind.0 c.0 c.1).over
      ])

  -- The texts of the classes are tied to the matchers.
  pub classes_tied : (all : Bool) → AreApartCandidates q cs → AreTied q cs
      → AllByRecursion (λ text. IsClassText q.alphabet ms text
      ⊎ ((all ≡ false) × (length text < MAX_SAMPLE_NUMBERS))) (class_texts named cs)
  classes_tied all distinct tied =
      all_from_places _ (class_texts named cs)
      (λ k x at. elim (get_append named (map (λ c. string_bytes c.text) cs) x k at) [
        | inl here ↦ inl (inl (names_from ms q asked x (is_named x k here)))
        | inr behind ↦
            let c = get_mapped (λ c. string_bytes c.text) cs behind.0 x behind.2 in
            subst (λ text. IsClassText q.alphabet ms text ⊎ ((all ≡ false) × (length text < MAX_SAMPLE_NUMBERS))) c.2
            (elim (tied behind.0 c.0 c.1) [
              | inl other ↦ inl (inr (inr (other.0, other.1, λ n below. names_from ms q asked (others n) (other.2 n below))))
              | inr shortest ↦ inl (inr (inl (shortest_from ms q c.0 asked (distinct.own behind.0 c.0 c.1) shortest)))
            ])
      ])

-- The questions that are asked by automata of the other patterns, and by the named texts.
pub asked_by : (ms : List Matcher) (a : Alphabet) (tests : LabelTests) (texts : List (List ℕ)) (q : Questions)
    → IsTestsOf ms tests → AreEachOnce (named_over a ms) texts → AskOf a tests texts q → AreAsked ms q
asked_by ms a tests texts q is once asks = record {
  texts = subst (λ v. AreEachOnce (named_over v.0 ms) v.1.0) (sym asks) once;
  patterns = subst (λ v. AreEachOnce (other_patterns ms) v.1.1) (sym asks) is.patterns;
  only = all_known ms;
}

-- Copies have the same texts.
pub copied_texts : {Z : Type 0} (xs ys : List (String Z))
    → AllZip (λ s t. string_bytes t ≡ string_bytes s) xs ys → map string_bytes ys ≡ map string_bytes xs
copied_texts [] [] h = refl
copied_texts [] (y ∷ ys) h = absurd h
copied_texts (x ∷ xs) [] h = absurd h
copied_texts (x ∷ xs) (y ∷ ys) h = let rest = copied_texts xs ys h.1 in λ i. h.0 i ∷ rest i
