-- Matchers by the literals that say the same: what the literals that stay named say.
use Rattle.std.proofs.Common.{◌≡◌, ◌+◌, ℕ, zero, suc, List, [], ◌∷◌, ◌++◌, Bool, true}
use Rattle.std.proofs.Common.{false, not, ◌&&◌, cond, Some, IsTrue, IsFalse, refl, sym, ap}
use Rattle.std.proofs.Common.{◌∙◌, subst, inl, inr, arith, length, map, take, drop, min, add-one}
use Rattle.std.proofs.Common.{Bor}
use Rattle.std.specs.Prelude.{slice_get}
use Rattle.std.specs.List.{AllByRecursion, AllZip, filter}
use Rattle.std.proofs.lemmas.Bool.{and_parts, and_from, cases_Bool}
use Rattle.std.proofs.lemmas.List.{drop_at, take_all, take_at}
use Rattle.std.proofs.lemmas.Simd.{map-map}
use Rattle.am_universe.specs.LabelSet.{LabelMap, label_set_of}
use Rattle.am_labels.specs.Matcher.{Matcher, all_hold, condition_holds}
use Rattle.am_labels.specs.Space.{Space, IsChoiceOf}
use Rattle.am_judged_lists.specs.Cube.{matches}
use Rattle.am_judged_lists.proofs.ListLemmas.{and_true}
use Rattle.am_first_sets.proofs.CubeTruth.{matches_where}
use Rattle.am_first_sets.specs.declared.candidate.Candidate.{Candidate}
use Rattle.am_first_sets.specs.Literals.{holds_at, hold_all, meets}
use Rattle.am_first_sets.specs.Reason.{AreFewer, AreNamedBefore}
use Rattle.am_first_sets.specs.Solving.{marked}
use Rattle.am_first_sets.proofs.ReasonLemmas.{fewer_same, front_alike}
use Rattle.am_complete.proofs.Pushed.{zip_left}
use Rattle.am_eval.specs.Reaching.{SomeIs}
use Rattle.am_route_alerts.specs.declared.matcher_cubes.KnownMatcher.{KnownMatcher}
use Rattle.am_route_alerts.specs.Implied.{IsSameFor, IsEachNeeded}
use Rattle.am_route_alerts.specs.MatcherCubes.{AreEachCubes, MeetsAll}
use Rattle.am_route_alerts.specs.Shortened.{IsShortened, all_but}
use Rattle.am_route_alerts.proofs.LiteralsHold.{front_named, meets_all, meets_named, meets_both}
use Rattle.am_route_alerts.proofs.LiteralsHold.{meets_parts, named_marked, needed_behind, zip_but}
use Rattle.am_route_alerts.proofs.ZipLists.{zip_through, zip_cut}

-- ---- Marks.

abbrev pub marks_of : List Candidate → List Bool
marks_of ks = map (λ k. k.named) ks

marked-map : {X Y : Type 0} (f : X → Y) (marks : List Bool) (xs : List X)
    → map f (marked marks xs) ≡ marked marks (map f xs)
marked-map f [] xs = refl
marked-map f (b ∷ marks) [] = refl
marked-map f (true ∷ marks) (x ∷ xs) = ap (λ ys. f x ∷ ys) (marked-map f marks xs)
marked-map f (false ∷ marks) (x ∷ xs) = marked-map f marks xs

-- ---- The matchers whose literals are named.

abbrev pub kept_of : List Candidate → List KnownMatcher → List (Bor Matcher)
kept_of ks matchers = marked (marks_of ks) (map (λ known. known.matcher) matchers)

pub kept_matchers : (ks : List Candidate) (matchers : List KnownMatcher)
    → map (λ m. m.now) (kept_of ks matchers)
    ≡ marked (marks_of ks) (map (λ known. known.matcher.now) matchers)
kept_matchers ks matchers =
    marked-map (λ (m : Bor Matcher). m.now) (marks_of ks)
    (map (λ (known : KnownMatcher). known.matcher) matchers)
    ∙ ap (marked (marks_of ks))
    (map-map (λ (m : Bor Matcher). m.now) (λ (known : KnownMatcher). known.matcher) matchers)

pub kept_more : (ks : List Candidate) (matchers : List KnownMatcher) (n : ℕ) (k : Candidate)
    (known : KnownMatcher) → slice_get ks n ≡ Some k → slice_get matchers n ≡ Some known
    → kept_of (take (n + 1) ks) (take (n + 1) matchers)
    ≡ kept_of (take n ks) (take n matchers) ++ cond k.named (known.matcher ∷ []) []
kept_more ks matchers n k known at there = rw add-one (next ks matchers n at there)
  where
    next : (ls : List Candidate) (rest : List KnownMatcher) (i : ℕ) → slice_get ls i ≡ Some k
        → slice_get rest i ≡ Some known
        → kept_of (take (suc i) ls) (take (suc i) rest)
        ≡ kept_of (take i ls) (take i rest) ++ cond k.named (known.matcher ∷ []) []
    next [] rest i at there = absurd (cc)
    next (l ∷ ls) [] i at there = absurd (cc)
    next (l ∷ ls) (m ∷ rest) zero at there =
        let is : l ≡ k = cc in
        let also : m ≡ known = cc in λ j. cond (is j).named ((also j).matcher ∷ []) []
    next (l ∷ ls) (m ∷ rest) (suc i) at there = elim (cases_Bool l.named) [
      | inl named ↦ rw named (ap (λ xs. m.matcher ∷ xs) (next ls rest i at there))
      | inr unnamed ↦ rw unnamed (next ls rest i at there)
    ]

pub kept_all : (ks : List Candidate) (matchers : List KnownMatcher) (n : ℕ)
    → n ≡ min (length ks) (length matchers)
    → kept_of (take n ks) (take n matchers) ≡ kept_of ks matchers
kept_all [] matchers zero end = refl
kept_all [] matchers (suc n) end = refl
kept_all (k ∷ ks) [] zero end = refl
kept_all (k ∷ ks) [] (suc n) end = refl
kept_all (k ∷ ks) (known ∷ matchers) zero end = absurd (omega (arith, end))
kept_all (k ∷ ks) (known ∷ matchers) (suc n) end =
    let rest = kept_all ks matchers n (omega (arith, end)) in
    λ i. cond k.named (known.matcher ∷ rest i) (rest i)

-- ---- A literal that says what a matcher says.

-- at each choice of a space it is true exactly if the matcher is
abbrev pub IsSaying : Space → Matcher → Candidate → Type 0
IsSaying s m k =
    (c : List ℕ) → IsChoiceOf s c → holds_at c k ≡ condition_holds (label_set_of s.labels c) m

abbrev pub AreSaying : Space → List Matcher → List Candidate → Type 0
AreSaying s ms ks = AllZip (IsSaying s) ms ks

abbrev AreNamed : List Candidate → Type 0
AreNamed ks = AllByRecursion (λ k. IsTrue k.named) ks

-- the literal of a matcher
abbrev pub literal_of : KnownMatcher → Candidate
literal_of known = record { cube = known.cube; wanted = true; named = true; tag = 0 }

pub asking : (s : Space) (matchers : List KnownMatcher) → AreEachCubes s.labels matchers
    → AreSaying s (map (λ known. known.matcher.now) matchers) (map literal_of matchers)
    × AreNamed (map literal_of matchers)
asking s [] each = (tt, tt)
asking s (known ∷ matchers) each =
    let m = known.matcher.now in
    let says : IsSaying s m (literal_of known) = λ c is.
    matches_where s.labels c is.0 (m ∷ []) known.cube.now (each.0 c is.0.0)
    ∙ and_true (condition_holds (label_set_of s.labels c) m) in
    let rest = asking s matchers each.1 in ((says, rest.0), (refl, rest.1))

-- whichever of them are named
still_saying : (s : Space) (ms : List Matcher) (ks ls : List Candidate) → AreSaying s ms ks
    → AreFewer ks ls → AreSaying s ms ls
still_saying s ms ks ls says fewer =
    zip_through (IsSaying s) _ (IsSaying s) ms ks ls
    (λ m k l is same c possible.
    sym (λ i. cond (same.1 i) (matches (same.0 i).now c) (not (matches (same.0 i).now c)))
    ∙ is c possible) says fewer

said_all : (s : Space) (ms : List Matcher) (ks : List Candidate) → AreSaying s ms ks
    → (c : List ℕ) → IsChoiceOf s c → hold_all c ks ≡ all_hold (label_set_of s.labels c) ms
said_all s [] [] says c is = refl
said_all s (m ∷ ms) (k ∷ ks) says c is = λ i. says.0 c is i && said_all s ms ks says.1 c is i
said_all s ms ks says c is = absurd says

-- ---- Literals behind given ones, which stay named.

pub named_front : (given lits : List Candidate) → AreNamedBefore (length given) given
    → AreNamedBefore (length given) (given ++ lits)
named_front [] lits first i k at lt = absurd (omega (arith, lt))
named_front (g ∷ given) lits first zero k at lt = first zero k at lt
named_front (g ∷ given) lits first (suc i) k at lt =
    named_front given lits (λ j l there below. first (suc j) l there (omega (arith, below))) i k at
    (omega (arith, lt))

-- ---- The matchers that are kept.

module _ (s : Space) (given lits new : List Candidate) (ms : List Matcher)
    (asks : AreSaying s ms lits × AreNamed lits) (named : AreNamedBefore (length given) given)
    (fewer : AreFewer (given ++ lits) new) (first : AreNamedBefore (length given) new)
    (same : IsSameFor (IsChoiceOf s) (given ++ lits) new)
    (needed : IsEachNeeded (IsChoiceOf s) (length given) new) where
  abbrev n : ℕ
  n = length given

  abbrev back : List Candidate
  back = drop n new

  abbrev kept : List Matcher
  kept = marked (marks_of back) ms

  abbrev kept_literals : List Candidate
  kept_literals = filter (λ k. k.named) back

  says : AreSaying s kept kept_literals
  says =
      named_marked (IsSaying s) ms back (still_saying s ms lits back asks.0
      (subst (λ (ks : List Candidate). AreFewer ks back) (drop_at given lits n refl)
      (zip_cut _ n (given ++ lits) new fewer).1))

  -- the first literals are the given ones
  front_met : (c : List ℕ) → meets c (take n new) ≡ hold_all c given
  front_met c =
      meets_all c (take n new) (front_named n new first)
      ∙ sym (front_alike c n (given ++ lits) new (fewer_same (given ++ lits) new fewer))
      ∙ ap (hold_all c) (take_at given lits n refl)

  old_met : (c : List ℕ) → IsChoiceOf s c → meets c (given ++ lits)
      ≡ (hold_all c given && all_hold (label_set_of s.labels c) ms)
  old_met c is =
      meets_both c given lits
      ∙ (λ i. meets_all c given all_given i
      && (meets_all c lits asks.1 ∙ said_all s ms lits asks.0 c is) i)
    where
      all_given : AreNamed given
      all_given = subst AreNamed (take_all n given (omega arith)) (front_named n given named)

  new_met : (c : List ℕ) → IsChoiceOf s c → meets c new
      ≡ (hold_all c given && all_hold (label_set_of s.labels c) kept)
  new_met c is =
      meets_parts c n new
      ∙ (λ i. front_met c i
      && (meets_named c back ∙ said_all s kept kept_literals says c is) i)

  kept_enough : (set : LabelMap) → MeetsAll s given set → IsTrue (all_hold set kept)
      → IsTrue (all_hold set ms)
  kept_enough set counts holds =
      let c = counts.0 in
      let own = label_set_of s.labels c in
      let is : set ≡ own = counts.3 in
      let kept_hold : all_hold own kept ≡ true =
      ap (λ (x : LabelMap). all_hold x kept) (sym is) ∙ holds in
      let both : (hold_all c given && all_hold own ms) ≡ true =
      sym (old_met c counts.1) ∙ sym (same c counts.1) ∙ new_met c counts.1
      ∙ and_from (hold_all c given) (all_hold own kept) counts.2 kept_hold in
      ap (λ (x : LabelMap). all_hold x ms) is
      ∙ (and_parts (hold_all c given) (all_hold own ms) both).1

  kept_needed : (i : ℕ) (m : Matcher) → slice_get kept i ≡ Some m
      → SomeIs (MeetsAll s given)
      (λ set. IsTrue (all_hold set (all_but i kept)) × IsFalse (condition_holds set m))
  kept_needed i m at =
      let own = zip_left (IsSaying s) kept kept_literals i m says at in
      let (c, is, met, fails, rest) =
      needed_behind (IsChoiceOf s) n new needed i own.0 own.1 in
      let others = zip_but (IsSaying s) i kept kept_literals says in (
        label_set_of s.labels c,
        (c, is, sym (front_met c) ∙ met, refl),
        (
          sym (said_all s (all_but i kept) (all_but i kept_literals) others c is) ∙ rest,
          sym (own.2 c is) ∙ fails,
        ),
      )

  pub is_shortened : IsShortened (MeetsAll s given) ms kept
  is_shortened = record {
    marks = marks_of back;
    part = refl;
    enough = kept_enough;
    needed = kept_needed;
  }
