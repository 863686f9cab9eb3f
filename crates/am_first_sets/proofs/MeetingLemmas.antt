-- Choices that wanted cubes match and unwanted ones do not.
use Rattle.std.proofs.Common.{◌≡◌, ◌↔◌, ℕ, ◌<◌, Bool, true, false, not, ◌&&◌, List, [], ◌∷◌, ◌++◌}
use Rattle.std.proofs.Common.{Option, Some, Bor, None, Result, Ok, Err, IfOk, IfSome, IfNone, length, take, drop, get_or, slice_get}
use Rattle.std.proofs.Common.{refl, ap, sym, ◌∙◌, subst, inl, inr}
use Rattle.std.specs.Prelude.{IsTrue}
use Rattle.std.specs.List.{find, list_all}
use Rattle.std.proofs.lemmas.Bool.{and_parts, and_from, and_left, cases_Bool, both_ways, false_from_ne_true}
use Rattle.std.proofs.lemmas.List.{take-append-drop}
use Rattle.std.proofs.lemmas.List.Folds.{list_all_at, list_all-append}
use Rattle.am_labels.specs.Space.{Space, all_choices, is_possible_choice, IsChoiceOf}
use Rattle.am_universe.specs.Universe.{sizes}
use Rattle.am_judged_lists.specs.Cube.{MaskedLabels, matches}
use Rattle.am_judged_lists.specs.Boxes.{IsInBox}
use Rattle.am_first_sets.specs.declared.possible_choices.PossibleChoices.{PossibleChoices}
use Rattle.am_first_sets.specs.Meeting.{all_match, meets_cubes, is_possible_by}
use Rattle.am_first_sets.specs.declared.candidate.Candidate.{Candidate}
use Rattle.am_first_sets.specs.Literals.{meets, wanted_of, unwanted_of}
use Rattle.am_first_sets.specs.PossibleChoices.{IsPossible, AreFound, AreChoicesOf}
use Rattle.am_first_sets.specs.Solving.{avoids, marked, IsAnswer, NoneAvoids, IsTestOf}
use Rattle.am_first_sets.proofs.SolverLemmas.{avoids_marked}
use Rattle.am_first_sets.proofs.FirstPossible.{find_none, found_alike}

-- ---- One wanted cube more.

-- if it matches no choice that is left, there is no choice that all match
pub wanted_none : (Start : Type 0) (old : List (List Bool)) (wanted : List (Bor MaskedLabels)) (i : ℕ) (cube : Bor MaskedLabels) (c : List ℕ)
    → i < length wanted → cube ≡ get_or wanted i cube → (IsInBox old c ↔ Start × IsTrue (all_match (take i wanted) c))
    → ((d : List ℕ) → IsInBox old d → matches cube.now d ≡ false) → Start → all_match wanted c ≡ false
wanted_none Start old wanted i cube c low read before misses start =
    let test : Bor MaskedLabels → Bool = λ x. matches x.now c in
    elim (cases_Bool (all_match (take i wanted) c)) [
      | inl all ↦ list_all_at test wanted i cube low (ap test (sym read) ∙ misses c (before.1 (start, all)))
      | inr fails ↦
          ap (list_all test) (sym (take-append-drop i wanted)) ∙ list_all-append test (take i wanted) (drop i wanted)
          ∙ and_left (all_match (take i wanted) c) (list_all test (drop i wanted)) fails
    ]

-- ---- What the search finds.

-- the cubes against which a search goes: those that are unwanted, and others, which say what is
-- possible
pub against_both : (unwanted more cubes : List (Bor MaskedLabels)) (c : List ℕ) (possible : Bool)
    → cubes ≡ unwanted ++ more → avoids more c ≡ possible
    → avoids cubes c ≡ (avoids unwanted c && possible)
against_both unwanted more cubes c possible are e =
    ap (λ (xs : List (Bor MaskedLabels)). avoids xs c) are
    ∙ list_all-append (λ (x : Bor MaskedLabels). not (matches x.now c)) unwanted more
    ∙ ap (λ b. avoids unwanted c && b) e

-- of the unwanted ones those that are marked are enough, if of all they are
pub marked_front : (ms : List Bool) (unwanted more : List (Bor MaskedLabels)) (c : List ℕ)
    → avoids (marked ms unwanted) c ≡ true → avoids more c ≡ true
    → avoids (marked ms (unwanted ++ more)) c ≡ true
marked_front ms [] more c e rest = avoids_marked ms more c rest
marked_front [] (x ∷ unwanted) more c e rest = refl
marked_front (true ∷ ms) (x ∷ unwanted) more c e rest =
    let parts = and_parts (not (matches x.now c)) (avoids (marked ms unwanted) c) e in
    and_from (not (matches x.now c)) (avoids (marked ms (unwanted ++ more)) c) parts.0
    (marked_front ms unwanted more c parts.1 rest)
marked_front (false ∷ ms) (x ∷ unwanted) more c e rest = marked_front ms unwanted more c e rest

module _ (p : PossibleChoices) (wanted unwanted cubes : List (Bor MaskedLabels))
    (b : List (List Bool)) (box : (c : List ℕ) → IsInBox b c ↔ IsInBox p.all c × IsTrue (all_match wanted c))
    (against : (c : List ℕ) → avoids cubes c ≡ (avoids unwanted c && is_possible_by p.impossible.items c)) where
  -- a choice is possible and meets the cubes exactly if it is in the box and avoids all cubes
  pub asked_is : (c : List ℕ) → IsPossible p c × IsTrue (meets_cubes wanted unwanted c)
      ↔ IsInBox b c × IsTrue (avoids cubes c)
  asked_is c =
      let all = all_match wanted c in
      let none = avoids unwanted c in
      let possible = is_possible_by p.impossible.items c in (
        λ h.
            let asked = and_parts all none h.1 in
            ((box c).1 (h.0.0, asked.0), against c ∙ and_from none possible asked.1 h.0.1),
        λ h.
            let inside = (box c).0 h.0 in
            let parts = and_parts none possible (sym (against c) ∙ h.1) in
            ((inside.0, parts.1), and_from all none inside.1 parts.0),
      )

  pub answer_meets : (found : List (List Bool)) → IsAnswer b cubes found
      → AreFound (IsPossible p) (meets_cubes wanted unwanted) found
  answer_meets found answer = record {
    some = answer.some;
    each = λ c i. (asked_is c).1 (answer.inside c i, answer.avoided c i);
  }

  pub none_meets : NoneAvoids b cubes → (c : List ℕ) → IsPossible p c
      → meets_cubes wanted unwanted c ≡ false
  none_meets none c possible = false_from_ne_true (meets_cubes wanted unwanted c) (λ met.
      let r = (asked_is c).0 (possible, met) in both_ways (avoids cubes c) (none c r.0) r.1)

  pub found_meets : (c : List ℕ) × IsInBox b c × IsTrue (avoids cubes c)
      → (c : List ℕ) × IsPossible p c × IsTrue (meets_cubes wanted unwanted c)
  found_meets h = let r = (asked_is h.0).1 (h.1, h.2) in (h.0, r.0, r.1)

  -- so this is what is asked of a choice of a space
  pub is_test : (s : Space) → AreChoicesOf s p
      → IsTestOf (sizes s.labels) (λ c. meets_cubes wanted unwanted c && is_possible_choice s c) b cubes
  is_test s are c whole =
      let met = meets_cubes wanted unwanted c in
      let possible = is_possible_choice s c in (
        λ h.
            let parts = and_parts met possible h in
            (asked_is c).0 (((are.whole c).1 whole, are.possible c whole ∙ parts.1), parts.0),
        λ h.
            let r = (asked_is c).1 h in
            and_from met possible r.1 (sym (are.possible c whole) ∙ r.0.1),
      )

-- no choice meets the cubes that were used
pub none_meets_marked : (p : PossibleChoices) (wanted unwanted more cubes : List (Bor MaskedLabels))
    (b : List (List Bool)) (ms : List Bool)
    → ((c : List ℕ) → IsInBox b c ↔ IsInBox p.all c × IsTrue (all_match wanted c))
    → cubes ≡ unwanted ++ more
    → ((c : List ℕ) → avoids more c ≡ is_possible_by p.impossible.items c)
    → NoneAvoids b (marked ms cubes) → (c : List ℕ) → IsPossible p c
    → meets_cubes wanted (marked ms unwanted) c ≡ false
none_meets_marked p wanted unwanted more cubes b ms box are rest none c possible =
    false_from_ne_true (meets_cubes wanted (marked ms unwanted) c) (λ met.
    let parts = and_parts (all_match wanted c) (avoids (marked ms unwanted) c) met in
    both_ways (avoids (marked ms cubes) c) (none c ((box c).1 (possible.0, parts.0)))
    (subst (λ (xs : List (Bor MaskedLabels)). avoids (marked ms xs) c ≡ true) (sym are)
    (marked_front ms unwanted more c parts.1 (rest c ∙ possible.1))))

-- the possible choices are those of the space
pub choices_of : (s : Space) (p : PossibleChoices) → AreChoicesOf s p → (c : List ℕ)
    → IsPossible p c ↔ IsChoiceOf s c
choices_of s p are c = (
  λ h. let whole = (are.whole c).0 h.0 in (whole, sym (are.possible c whole) ∙ h.1),
  λ h. ((are.whole c).1 h.0, are.possible c h.0 ∙ h.1),
)

-- ---- Results.

-- what passes no test is not found
pub found_none : (s : Space) (p : PossibleChoices) (wanted unwanted : List (Bor MaskedLabels))
    → AreChoicesOf s p → ((c : List ℕ) → IsInBox p.all c → all_match wanted c ≡ false)
    → None ≡ find (meets_cubes wanted unwanted) (all_choices s)
found_none s p wanted unwanted are none =
    find_none (all_choices s)
    ∙ found_alike s (λ c. false) (meets_cubes wanted unwanted)
    (λ c is. sym (ap (λ b. b && avoids unwanted c) (none c ((are.whole c).1 is.0))))

-- what follows of a result, if it is one
pub if_ok_more : {A E : Type 0} (r : Result A E) (P Q : A → Type 0) → ((a : A) → P a → Q a)
    → IfOk r P → IfOk r Q
if_ok_more (Ok a) P Q so is = so a is
if_ok_more (Err e) P Q so is = tt

-- what follows if something is found, and if nothing is
pub if_some_more : {A E : Type 0} (r : Result (Option A) E) (P Q : A → Type 0)
    → ((a : A) → P a → Q a) → IfOk r (λ found. IfSome found P) → IfOk r (λ found. IfSome found Q)
if_some_more (Err e) P Q so h = tt
if_some_more (Ok None) P Q so h = tt
if_some_more (Ok (Some a)) P Q so h = so a h

pub if_none_more : {A E : Type 0} (r : Result (Option A) E) (P Q : Type 0) → (P → Q)
    → IfOk r (λ found. IfNone found P) → IfOk r (λ found. IfNone found Q)
if_none_more (Err e) P Q so h = tt
if_none_more (Ok None) P Q so h = so h
if_none_more (Ok (Some a)) P Q so h = tt

-- each choice is one that no cube is asked of
pub any_first : (cs : List (List ℕ)) → find (meets_cubes [] []) cs ≡ slice_get cs 0
any_first [] = refl
any_first (c ∷ cs) = refl

-- ---- Literals.

-- a choice meets the named literals exactly if it meets their cubes
pub by_cubes : (c : List ℕ) (ks : List Candidate)
    → meets_cubes (wanted_of ks) (unwanted_of ks) c ≡ meets c ks
by_cubes c [] = refl
by_cubes c (k ∷ ks) = elim (cases_Bool k.named) [
  | inl named ↦ elim (cases_Bool k.wanted) [
    | inl wanted ↦
        rw (named, wanted) (and_apart (matches k.cube.now c) (all_match (wanted_of ks) c)
        (avoids (unwanted_of ks) c) ∙ ap (λ b. matches k.cube.now c && b) (by_cubes c ks))
    | inr unwanted ↦
        rw (named, unwanted) (and_between (all_match (wanted_of ks) c) (not (matches k.cube.now c))
        (avoids (unwanted_of ks) c) ∙ ap (λ b. not (matches k.cube.now c) && b) (by_cubes c ks))
  ]
  | inr unnamed ↦ rw unnamed (by_cubes c ks)
]
  where
    and_apart : (a b d : Bool) → ((a && b) && d) ≡ (a && (b && d))
    and_apart true b d = refl
    and_apart false b d = refl

    and_between : (a b d : Bool) → (a && (b && d)) ≡ (b && (a && d))
    and_between true b d = refl
    and_between false true d = refl
    and_between false false d = refl
