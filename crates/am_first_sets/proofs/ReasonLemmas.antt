-- Literals that are named or not, one after another.
use Rattle.std.proofs.Common.{◌≡◌, ◌<◌, ◌≤◌, ◌+◌, ℕ, zero, suc, List, [], ◌∷◌, ◌++◌, Bool, true, false}
use Rattle.std.proofs.Common.{not, ◌&&◌, ◌||◌, Some, None, IsTrue, refl, sym, ap, ◌∙◌, subst, inl, inr}
use Rattle.std.proofs.Common.{arith, add-one, cond, length, set, take, drop, get_or, nat_lt, ◌⊎◌, ◌↔◌}
use Rattle.std.specs.Prelude.{slice_get, slice_index_or, Option, IfSome, IfNone, IsFalse, is_some}
use Rattle.std.proofs.lemmas.Bool.{and_parts, and_from, both_ways, cases_Bool, lt-ltb}
use Rattle.std.proofs.lemmas.Bool.{true_from_ne_false, false_from_ne_true}
use Rattle.std.proofs.lemmas.Grind.{common_steps}
use Rattle.std.proofs.lemmas.List.Folds.{list_all_at}
use Rattle.std.proofs.lemmas.Option.{slice_get_within, get_or_from_slice_get}
use Rattle.std.proofs.Math.Nat.{eq-or-lt_of_le}
use Rattle.std.specs.Borrow.{Bor}
use Rattle.am_judged_lists.specs.Cube.{MaskedLabels, matches}
use Rattle.am_first_sets.specs.declared.candidate.Candidate.{Candidate}
use Rattle.am_first_sets.specs.Literals.{holds_at, hold_all, meets, IsMet, IsUnmet}
use Rattle.am_first_sets.specs.Literals.{wanted_of, unwanted_of}
use Rattle.am_first_sets.specs.PossibleChoices.{AreFound}
use Rattle.am_first_sets.proofs.SolverLemmas.{some_choice}
use Rattle.am_first_sets.specs.Meeting.{all_match, meets_cubes}
use Rattle.am_first_sets.specs.Solving.{avoids, marked}
use Rattle.am_first_sets.specs.Reason.{AreSameLiterals, AreFewer, AreNamedBefore}
use Rattle.am_first_sets.specs.Reason.{renamed, without, named_first, kept, IsReason}
use Rattle.am_first_sets.specs.Reason.{FailsFirst, EachFailsFirst}

-- each named literal from one position on and before another is needed: without it something is met
abbrev pub AreNeededBefore : (List Candidate → Type 0) → ℕ → ℕ → List Candidate → Type 0
AreNeededBefore Met from n ks =
    (i : ℕ) (k : Candidate) → slice_get ks i ≡ Some k → from ≤ i → i < n → IsTrue k.named
    → Met (without i ks)

-- ---- One literal that is named, or is not.

pub renamed_is_set : (i : ℕ) (name : Bool) (ks : List Candidate) (d : Candidate)
    → i < length ks
    → set ks i (record {
      cube = (slice_index_or ks i d).cube;
      wanted = (slice_index_or ks i d).wanted;
      named = name;
      tag = (slice_index_or ks i d).tag;
    }) ≡ renamed i name ks
renamed_is_set i name [] d lt = absurd (omega (arith, lt))
renamed_is_set zero name (k ∷ ks) d lt = refl
renamed_is_set (suc i) name (k ∷ ks) d lt =
    ap (λ rest. k ∷ rest) (renamed_is_set i name ks d (omega (arith, lt)))

pub renamed_long : (i : ℕ) (name : Bool) (ks : List Candidate)
    → length (renamed i name ks) ≡ length ks
renamed_long i name [] = refl
renamed_long zero name (k ∷ ks) = refl
renamed_long (suc i) name (k ∷ ks) = ap suc (renamed_long i name ks)

-- if a literal loses its name and gets it back, nothing changes
pub restored : (i : ℕ) (ks : List Candidate) (k : Candidate) → slice_get ks i ≡ Some k
    → k.named ≡ true → renamed i true (without i ks) ≡ ks
restored i [] k at named = refl
restored zero (l ∷ ks) k at named =
    let is : l ≡ k = cc in
    let so : l.named ≡ true = ap (λ x. x.named) is ∙ named in
    λ j. record { cube = l.cube; wanted = l.wanted; named = sym so j; tag = l.tag } ∷ ks
restored (suc i) (l ∷ ks) k at named = ap (λ rest. l ∷ rest) (restored i ks k at named)

-- ---- Fewer that are named.

pub fewer_itself : (ks : List Candidate) → AreFewer ks ks
fewer_itself [] = tt
fewer_itself (k ∷ ks) = ((refl, refl, refl, λ named. named), fewer_itself ks)

pub fewer_through : (ks ls ms : List Candidate) → AreFewer ks ls → AreFewer ls ms → AreFewer ks ms
fewer_through [] [] [] a b = tt
fewer_through (k ∷ ks) (l ∷ ls) (m ∷ ms) a b = (
  (a.0.0 ∙ b.0.0, a.0.1 ∙ b.0.1, a.0.2 ∙ b.0.2, λ named. a.0.3 (b.0.3 named)),
  fewer_through ks ls ms a.1 b.1,
)
fewer_through [] [] ms a b = absurd b
fewer_through (k ∷ ks) (l ∷ ls) ms a b = absurd b
fewer_through ks ls ms a b = absurd a

pub fewer_without : (i : ℕ) (ks : List Candidate) → AreFewer ks (without i ks)
fewer_without i [] = tt
fewer_without zero (k ∷ ks) = ((refl, refl, refl, λ named. cc), fewer_itself ks)
fewer_without (suc i) (k ∷ ks) = ((refl, refl, refl, λ named. named), fewer_without i ks)

pub fewer_same : (ks ls : List Candidate) → AreFewer ks ls → AreSameLiterals ks ls
fewer_same [] [] h = tt
fewer_same (k ∷ ks) (l ∷ ls) h = ((h.0.0, h.0.1, h.0.2), fewer_same ks ls h.1)
fewer_same ks ls h = absurd h

-- what is named at a position was named before
pub fewer_at : (ks ls : List Candidate) (i : ℕ) (l : Candidate) → AreFewer ks ls
    → slice_get ls i ≡ Some l
    → (k : Candidate) × (slice_get ks i ≡ Some k) × (IsTrue l.named → IsTrue k.named)
fewer_at [] [] i l h at = cc
fewer_at (k ∷ ks) (m ∷ ls) zero l h at =
    let is : m ≡ l = cc in (k, refl, λ named. h.0.3 (ap (λ x. x.named) is ∙ named))
fewer_at (k ∷ ks) (m ∷ ls) (suc i) l h at = fewer_at ks ls i l h.1 at
fewer_at ks ls i l h at = absurd h

-- if the name of a literal is taken off of both, still no others are named
pub fewer_both : (i : ℕ) (ks ls : List Candidate) → AreFewer ks ls
    → AreFewer (without i ks) (without i ls)
fewer_both i [] [] h = tt
fewer_both zero (k ∷ ks) (l ∷ ls) h = ((h.0.0, h.0.1, h.0.2, λ named. cc), h.1)
fewer_both (suc i) (k ∷ ks) (l ∷ ls) h = (h.0, fewer_both i ks ls h.1)
fewer_both i ks ls h = absurd h

-- a literal whose name was taken off is not named
pub unnamed_at : {P : Type 0} (i : ℕ) (ks ls : List Candidate) (l : Candidate)
    → AreFewer (without i ks) ls → slice_get ls i ≡ Some l → IsTrue l.named → P
unnamed_at i ks ls l h at named =
    let r = fewer_at (without i ks) ls i l h at in no_name i ks r.0 r.1 (r.2 named)
  where
    no_name : {P : Type 0} (i : ℕ) (ks : List Candidate) (k : Candidate)
        → slice_get (without i ks) i ≡ Some k → IsTrue k.named → P
    no_name i [] k at named = absurd (cc)
    no_name zero (l ∷ ks) k at named =
        let is : record l { named = false } ≡ k = cc in
        absurd (both_ways k.named (ap (λ x. x.named) (sym is)) named)
    no_name (suc i) (l ∷ ks) k at named = no_name i ks k at named

-- the first literals stay named if a later one loses its name
pub named_less : (n i : ℕ) (ks : List Candidate) → n ≤ i → AreNamedBefore n ks
    → AreNamedBefore n (without i ks)
named_less n i [] le h j k at lt = cc
named_less n zero (l ∷ ks) le h j k at lt = absurd (omega (arith, le, lt))
named_less n (suc i) (l ∷ ks) le h zero k at lt = h zero k at lt
named_less zero (suc i) (l ∷ ks) le h (suc j) k at lt = absurd (omega (arith, lt))
named_less (suc n) (suc i) (l ∷ ks) le h (suc j) k at lt =
    named_less n i ks (omega (arith, le)) (λ m x there below. h (suc m) x there (omega (arith, below)))
    j k at (omega (arith, lt))

-- what is met stays so if fewer literals are named
pub fewer_met : (c : List ℕ) (ks ls : List Candidate) → AreFewer ks ls → meets c ks ≡ true
    → meets c ls ≡ true
fewer_met c [] [] h met = refl
fewer_met c (k ∷ ks) (l ∷ ls) h met =
    let parts = and_parts (not k.named || holds_at c k) (meets c ks) met in
    and_from (not l.named || holds_at c l) (meets c ls)
    (one k.named l.named (holds_at c k) (holds_at c l) h.0.3 (alike k l h.0.0 h.0.1) parts.0)
    (fewer_met c ks ls h.1 parts.1)
  where
    alike : (k l : Candidate) → k.cube ≡ l.cube → k.wanted ≡ l.wanted
        → holds_at c k ≡ holds_at c l
    alike k l cube wanted = rw (cube, wanted) refl

    one : (a b x y : Bool) → (b ≡ true → a ≡ true) → x ≡ y → (not a || x) ≡ true
        → (not b || y) ≡ true
    one a false x y so e h = refl
    one a true x y so e h = sym e ∙ (rw (so refl) at h)
fewer_met c ks ls h met = absurd h

pub fewer_is_met : (Is : List ℕ → Type 0) (ks ls : List Candidate) → AreFewer ks ls → IsMet Is ks
    → IsMet Is ls
fewer_is_met Is ks ls h met = (met.0, met.1, fewer_met met.0 ks ls h met.2)

-- a named literal is true where the named ones are met
pub met_at : (c : List ℕ) (ks : List Candidate) (i : ℕ) (k : Candidate) → meets c ks ≡ true
    → slice_get ks i ≡ Some k → k.named ≡ true → holds_at c k ≡ true
met_at c ks i k met at named =
    let test : Candidate → Bool = λ x. not x.named || holds_at c x in
    true_from_ne_false (holds_at c k) (λ fails. both_ways (meets c ks)
    (list_all_at test ks i k (slice_get_within ks i k at)
    (ap test (get_or_from_slice_get ks i k k at) ∙ rw (named, fails) refl)) met)

-- what a search says that finds something, or nothing
pub met_if : (Is : List ℕ → Type 0) (ks : List Candidate) (found : Option (List (List Bool)))
    → IfSome found (AreFound Is (λ c. meets c ks)) → is_some found ≡ true → IsMet Is ks
met_if Is ks None meeting some = absurd (cc)
met_if Is ks (Some b) meeting some =
    let r = some_choice b meeting.some in
    let met = meeting.each r.0 r.1 in
    (r.0, met.0, met.1)

pub unmet_if : (Is : List ℕ → Type 0) (ks : List Candidate) (found : Option (List (List Bool)))
    → IfNone found (IsUnmet Is ks) → is_some found ≡ false → IsUnmet Is ks
unmet_if Is ks None none unfound = none
unmet_if Is ks (Some b) none unfound = absurd (cc)

-- ---- What was used.

pub kept_fewer : (fixed : ℕ) (used : List Bool) (i n : ℕ) (ks : List Candidate)
    → AreFewer ks (kept fixed used i n ks)
kept_fewer fixed used i n [] = tt
kept_fewer fixed used i n (k ∷ ks) = elim (cases_Bool (k.named && not k.wanted)) [
  | inl asked ↦ rw asked (
    (refl, refl, refl, λ named. (and_parts k.named (not k.wanted) asked).0),
    kept_fewer fixed used (i + 1) (n + 1) ks,
  )
  | inr other ↦
      rw other ((refl, refl, refl, λ named. named), kept_fewer fixed used (i + 1) n ks)
]

-- the literals before the position `fixed` keep their names
kept_next : (fixed i n : ℕ) (used : List Bool) (m : Candidate) (ks : List Candidate)
    → (i < fixed → IsTrue m.named)
    → ((j : ℕ) (k : Candidate) → slice_get (kept fixed used (i + 1) n ks) j ≡ Some k
    → (i + 1) + j < fixed → IsTrue k.named)
    → (j : ℕ) (k : Candidate) → slice_get (m ∷ kept fixed used (i + 1) n ks) j ≡ Some k
    → i + j < fixed → IsTrue k.named
kept_next fixed i n used m ks here later zero k at lt =
    let is : m ≡ k = cc in ap (λ x. x.named) (sym is) ∙ here (omega (arith, lt))
kept_next fixed i n used m ks here later (suc j) k at lt = later j k at (omega (arith, lt))

pub kept_first : (fixed : ℕ) (used : List Bool) (i n : ℕ) (ks : List Candidate)
    → ((j : ℕ) (k : Candidate) → slice_get ks j ≡ Some k → i + j < fixed → IsTrue k.named)
    → (j : ℕ) (k : Candidate) → slice_get (kept fixed used i n ks) j ≡ Some k → i + j < fixed
    → IsTrue k.named
kept_first fixed used i n [] h j k at lt = cc
kept_first fixed used i n (l ∷ ks) h j k at lt =
    let behind : (q : ℕ) (x : Candidate) → slice_get ks q ≡ Some x → (i + 1) + q < fixed
    → IsTrue x.named = λ q x there below. h (suc q) x there (omega (arith, below)) in
    elim (cases_Bool (l.named && not l.wanted)) [
      | inl asked ↦
          kept_next fixed i (n + 1) used
          (record l { named = nat_lt i fixed || get_or used n false }) ks
          (λ below. ap (λ b. b || get_or used n false) (lt-ltb i fixed below))
          (kept_first fixed used (i + 1) (n + 1) ks behind) j k (rw asked at at) lt
      | inr other ↦
          kept_next fixed i n used l ks (λ below. h 0 l refl (omega (arith, below)))
          (kept_first fixed used (i + 1) n ks behind) j k (rw other at at) lt
    ]

marked_none : (ms : List Bool) → marked {A = Bor MaskedLabels} ms [] ≡ []
marked_none [] = refl
marked_none (m ∷ ms) = refl

-- the marks from a position on
marks_from : (used : List Bool) (n : ℕ)
    → (drop n used ≡ []) ⊎ (drop n used ≡ get_or used n false ∷ drop (suc n) used)
marks_from [] zero = inl refl
marks_from [] (suc n) = inl refl
marks_from (m ∷ used) zero = inr refl
marks_from (m ∷ used) (suc n) = marks_from used n

-- where those that stay named are met, so are the cubes that were used
kept_parts : (c : List ℕ) (fixed : ℕ) (used : List Bool) (i n : ℕ) (ks : List Candidate)
    → meets c (kept fixed used i n ks) ≡ true
    → (all_match (wanted_of ks) c ≡ true)
    × (avoids (marked (drop n used) (unwanted_of ks)) c ≡ true)
kept_parts c fixed used i n [] met = (refl, ap (λ cubes. avoids cubes c) (marked_none (drop n used)))
kept_parts c fixed used i n (k ∷ ks) met = elim (cases_Bool k.named) [
  | inr unnamed ↦
      rw unnamed (kept_parts c fixed used (i + 1) n ks (rw unnamed at met))
  | inl named ↦ elim (cases_Bool k.wanted) [
    | inl wanted ↦
        let parts = and_parts (matches k.cube.now c) (meets c (kept fixed used (i + 1) n ks))
        (rw (named, wanted) at met) in
        let rest = kept_parts c fixed used (i + 1) n ks parts.1 in
        rw (named, wanted) (
          and_from (matches k.cube.now c) (all_match (wanted_of ks) c) parts.0 rest.0,
          rest.1,
        )
    | inr unwanted ↦
        let parts = and_parts
        (not (nat_lt i fixed || get_or used n false) || not (matches k.cube.now c))
        (meets c (kept fixed used (i + 1) (n + 1) ks)) (rw (named, unwanted) at met) in
        let rest = kept_parts c fixed used (i + 1) (n + 1) ks parts.1 in
        rw (named, unwanted) (
          rest.0,
          one (nat_lt i fixed) (get_or used n false) k.cube (unwanted_of ks) (marks_from used n)
              parts.0 (subst (λ m. avoids (marked (drop m used) (unwanted_of ks)) c ≡ true)
              (add-one n) rest.1),
        )
  ]
]
  where
    one : (early m : Bool) (cube : Bor MaskedLabels) (cubes : List (Bor MaskedLabels))
        → (drop n used ≡ []) ⊎ (drop n used ≡ m ∷ drop (suc n) used)
        → (not (early || m) || not (matches cube.now c)) ≡ true
        → avoids (marked (drop (suc n) used) cubes) c ≡ true
        → avoids (marked (drop n used) (cube ∷ cubes)) c ≡ true
    one early m cube cubes (inl none) here rest = rw none refl
    one early false cube cubes (inr some) here rest = rw some rest
    one true true cube cubes (inr some) here rest =
        rw some (and_from (not (matches cube.now c)) (avoids (marked (drop (suc n) used) cubes) c) here rest)
    one false true cube cubes (inr some) here rest =
        rw some (and_from (not (matches cube.now c)) (avoids (marked (drop (suc n) used) cubes) c) here rest)

pub kept_meets : (c : List ℕ) (fixed : ℕ) (used : List Bool) (ks : List Candidate)
    → meets c (kept fixed used 0 0 ks) ≡ true
    → meets_cubes (wanted_of ks) (marked used (unwanted_of ks)) c ≡ true
kept_meets c fixed used ks met =
    let parts = kept_parts c fixed used 0 0 ks met in
    and_from (all_match (wanted_of ks) c) (avoids (marked used (unwanted_of ks)) c) parts.0 parts.1

-- one literal more
pub kept_asked : (fixed : ℕ) (used : List Bool) (i n j : ℕ) (ks : List Candidate) (k : Candidate)
    → slice_get ks j ≡ Some k → (k.named && not k.wanted) ≡ true
    → take j ks ++ kept fixed used i n (drop j ks)
    ≡ take (suc j) (renamed j (nat_lt i fixed || get_or used n false) ks)
    ++ kept fixed used (i + 1) (n + 1)
    (drop (suc j) (renamed j (nat_lt i fixed || get_or used n false) ks))
kept_asked fixed used i n j [] k at asked = absurd (cc)
kept_asked fixed used i n zero (l ∷ ks) k at asked =
    let is : l ≡ k = cc in
    let here : (l.named && not l.wanted) ≡ true =
    subst (λ (x : Candidate). (x.named && not x.wanted) ≡ true) (sym is) asked in
    rw here refl
kept_asked fixed used i n (suc j) (l ∷ ks) k at asked =
    ap (λ rest. l ∷ rest) (kept_asked fixed used i n j ks k at asked)

pub kept_other : (fixed : ℕ) (used : List Bool) (i n j : ℕ) (ks : List Candidate) (k : Candidate)
    → slice_get ks j ≡ Some k → (k.named && not k.wanted) ≡ false
    → take j ks ++ kept fixed used i n (drop j ks)
    ≡ take (suc j) ks ++ kept fixed used (i + 1) n (drop (suc j) ks)
kept_other fixed used i n j [] k at other = absurd (cc)
kept_other fixed used i n zero (l ∷ ks) k at other =
    let is : l ≡ k = cc in
    let here : (l.named && not l.wanted) ≡ false =
    subst (λ (x : Candidate). (x.named && not x.wanted) ≡ false) (sym is) other in
    rw here refl
kept_other fixed used i n (suc j) (l ∷ ks) k at other =
    ap (λ rest. l ∷ rest) (kept_other fixed used i n j ks k at other)

-- if there was no choice before a search, there is none after it
pub enough_after : (Is : List ℕ → Type 0) (before after : List Candidate) (refuted : Bool)
    → IsUnmet Is before → (IsTrue refuted → IsUnmet Is after)
    → (IsFalse refuted → (after ≡ before) × IsMet Is before) → IsUnmet Is after
enough_after Is before after true none enough unchanged = enough refl
enough_after Is before after false none enough unchanged =
    let met = (unchanged refl).1 in
    absurd (both_ways (meets met.0 before) (none met.0 met.1) met.2)

-- ---- What was looked at is needed.

pub needed_more : (Is : List ℕ → Type 0) (from i : ℕ) (before after : List Candidate)
    → AreFewer before after
    → ((k : Candidate) → slice_get after i ≡ Some k → IsTrue k.named → IsMet Is (without i after))
    → AreNeededBefore (IsMet Is) from i before → AreNeededBefore (IsMet Is) from (i + 1) after
needed_more Is from i before after fewer here so j k at low lt named =
    elim (eq-or-lt_of_le (at_most j i lt)) [
      | inr below ↦
          let r = fewer_at before after j k fewer at in
          fewer_is_met Is (without j before) (without j after) (fewer_both j before after fewer)
          (so j r.0 r.1 low below (r.2 named))
      | inl is ↦
          subst (λ (n : ℕ). IsMet Is (without n after)) (sym is)
          (here k (subst (λ (n : ℕ). slice_get after n ≡ Some k) is at) named)
    ]
  where
    at_most : (j i : ℕ) → j < i + 1 → j ≤ i
    at_most j i lt = omega (arith, lt)

-- ---- The same literals, whichever of them are named.

pub same_through : (ks ls ms : List Candidate) → AreSameLiterals ks ls → AreSameLiterals ls ms
    → AreSameLiterals ks ms
same_through [] [] [] a b = tt
same_through (k ∷ ks) (l ∷ ls) (m ∷ ms) a b =
    ((a.0.0 ∙ b.0.0, a.0.1 ∙ b.0.1, a.0.2 ∙ b.0.2), same_through ks ls ms a.1 b.1)
same_through [] [] ms a b = absurd b
same_through (k ∷ ks) (l ∷ ls) [] a b = absurd b
same_through ks ls ms a b = absurd a

pub front_alike : (choice : List ℕ) (n : ℕ) (ks ls : List Candidate) → AreSameLiterals ks ls
    → hold_all choice (take n ks) ≡ hold_all choice (take n ls)
front_alike choice zero ks ls same = refl
front_alike choice (suc n) [] [] same = refl
front_alike choice (suc n) (k ∷ ks) (l ∷ ls) same =
    λ i. cond (same.0.1 i) (matches (same.0.0 i).now choice) (not (matches (same.0.0 i).now choice))
    && front_alike choice n ks ls same.1 i
front_alike choice (suc n) ks ls same = absurd same

pub first_same : (n : ℕ) (ks : List Candidate) → AreSameLiterals ks (named_first n ks)
first_same zero ks = fewer_same ks ks (fewer_itself ks)
first_same (suc n) [] = tt
first_same (suc n) (k ∷ ks) = ((refl, refl, refl), first_same n ks)

pub first_named : (n : ℕ) (ks : List Candidate)
    → renamed n true (named_first n ks) ≡ named_first (suc n) ks
first_named zero [] = refl
first_named zero (k ∷ ks) = refl
first_named (suc n) [] = refl
first_named (suc n) (k ∷ ks) =
    ap (λ rest. record k { named = true } ∷ rest) (first_named n ks)

-- ---- A literal that is left out, while all before it are named.

abbrev pub retried : ℕ → List Candidate → List Candidate
retried i ks = without i (named_first i ks)

pub retried_same : (i : ℕ) (ks : List Candidate) → AreSameLiterals ks (retried i ks)
retried_same i ks =
    same_through ks (named_first i ks) (retried i ks) (first_same i ks)
    (fewer_same (named_first i ks) (retried i ks) (fewer_without i (named_first i ks)))

pub retried_named : (n i : ℕ) (ks : List Candidate) → n ≤ i → AreNamedBefore n (retried i ks)
retried_named n zero ks le j k at lt = absurd (omega (arith, le, lt))
retried_named n (suc i) [] le j k at lt = cc
retried_named n (suc i) (l ∷ ks) le zero k at lt = cc
retried_named zero (suc i) (l ∷ ks) le (suc j) k at lt = absurd (omega (arith, lt))
retried_named (suc n) (suc i) (l ∷ ks) le (suc j) k at lt =
    retried_named n i ks (omega (arith, le)) j k at (omega (arith, lt))

retried_behind : (i j : ℕ) (ks : List Candidate) → i < j
    → slice_get (retried i ks) j ≡ slice_get ks j
retried_behind zero zero ks lt = absurd (omega (arith, lt))
retried_behind zero (suc j) [] lt = refl
retried_behind zero (suc j) (k ∷ ks) lt = refl
retried_behind (suc i) j [] lt = refl
retried_behind (suc i) zero (k ∷ ks) lt = absurd (omega (arith, lt))
retried_behind (suc i) (suc j) (k ∷ ks) lt = retried_behind i j ks (omega (arith, lt))

-- a choice that meets these meets all before the literal, and not the literal itself
retried_front : (c : List ℕ) (i : ℕ) (ks : List Candidate) → meets c (retried i ks) ≡ true
    → hold_all c (take i ks) ≡ true
retried_front c zero ks met = refl
retried_front c (suc i) [] met = refl
retried_front c (suc i) (k ∷ ks) met =
    grind (arith, common_steps, and_parts, and_from, retried_front c i ks)

retried_whole : (c : List ℕ) (i : ℕ) (ks : List Candidate) → meets c (retried i ks) ≡ true
    → hold_all c (take (suc i) ks) ≡ true → meets c ks ≡ true
retried_whole c i [] met all = refl
retried_whole c zero (k ∷ ks) met all = grind (arith, common_steps, and_parts, and_from)
retried_whole c (suc i) (k ∷ ks) met all =
    grind (arith, common_steps, and_parts, and_from, retried_whole c i ks)

pub fails_first : (Is : List ℕ → Type 0) (i : ℕ) (ks : List Candidate) → IsUnmet Is ks
    → IsMet Is (retried i ks) → FailsFirst Is i ks
fails_first Is i ks none met = (
  met.0,
  met.1,
  retried_front met.0 i ks met.2,
  false_from_ne_true (hold_all met.0 (take (i + 1) ks)) (λ all.
      both_ways (meets met.0 ks) (none met.0 met.1) (retried_whole met.0 i ks met.2
      (subst (λ n. hold_all met.0 (take n ks) ≡ true) (add-one i) all))),
)

pub one_more_fails : (Is : List ℕ → Type 0) (i : ℕ) (ks : List Candidate)
    → ((k : Candidate) → slice_get ks i ≡ Some k → IsTrue k.named → FailsFirst Is i ks)
    → EachFailsFirst Is (i + 1) ks → EachFailsFirst Is i ks
one_more_fails Is i ks here later j k at le named = elim (eq-or-lt_of_le le) [
  | inl is ↦
      subst (λ n. FailsFirst Is n ks) is
      (here k (subst (λ n. slice_get ks n ≡ Some k) (sym is) at) named)
  | inr lt ↦ later j k at (omega (arith, lt)) named
]

-- those behind it that stay named still fail first, and it is not named itself
pub others_fail : (Is : List ℕ → Type 0) (i : ℕ) (ks ls : List Candidate)
    → AreFewer (retried i ks) ls → EachFailsFirst Is (i + 1) ks → EachFailsFirst Is i ls
others_fail Is i ks ls fewer later =
    let same = same_through ks (retried i ks) ls (retried_same i ks) (fewer_same _ _ fewer) in
    one_more_fails Is i ls (λ k at named. unnamed_at i (named_first i ks) ls k fewer at named)
    (λ j k at le named.
    let r = fewer_at (retried i ks) ls j k fewer at in
    let f = later j r.0 (sym (retried_behind i j ks (omega (arith, le))) ∙ r.1) le (r.2 named) in (
      f.0,
      f.1,
      sym (front_alike f.0 j ks ls same) ∙ f.2,
      sym (front_alike f.0 (j + 1) ks ls same) ∙ f.3,
    ))

-- ---- The same choices.

-- a reason is one for the same choices, however they are described
pub reason_alike : (Is Are : List ℕ → Type 0) (fixed : ℕ) (ks : List Candidate)
    → ((c : List ℕ) → Is c ↔ Are c) → IsReason Is fixed ks → IsReason Are fixed ks
reason_alike Is Are fixed ks same reason = record {
  first = reason.first;
  enough = λ c are. reason.enough c ((same c).1 are);
  needed = λ i k at behind named.
      let met = reason.needed i k at behind named in (met.0, (same met.0).0 met.1, met.2);
}
