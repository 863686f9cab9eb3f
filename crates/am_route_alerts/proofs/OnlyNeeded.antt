-- A single matcher is needed if a label set that counts fails it.
use Rattle.std.proofs.Common.{◌≡◌, ℕ, zero, suc, List, [], ◌∷◌, true, Some, IsTrue, IsFalse, refl}
use Rattle.std.proofs.Common.{false, sym, ap, ◌∙◌, subst, map, length, get_or, arith}
use Rattle.std.specs.Prelude.{slice_get}
use Rattle.am_universe.specs.LabelSet.{LabelMap, label_set_of}
use Rattle.am_labels.specs.Matcher.{Matcher, all_hold, condition_holds}
use Rattle.am_labels.specs.Space.{Space, IsChoiceOf}
use Rattle.am_judged_lists.specs.Cube.{matches}
use Rattle.am_judged_lists.proofs.ListLemmas.{and_true}
use Rattle.am_first_sets.proofs.CubeTruth.{matches_where}
use Rattle.am_first_sets.specs.declared.candidate.Candidate.{Candidate}
use Rattle.am_first_sets.specs.Literals.{hold_all}
use Rattle.am_eval.specs.Reaching.{SomeIs}
use Rattle.am_route_alerts.specs.declared.matcher_cubes.KnownMatcher.{KnownMatcher}
use Rattle.am_route_alerts.specs.MatcherCubes.{AreEachCubes, IsOnlyNeeded, MeetsAll}
use Rattle.am_route_alerts.specs.Shortened.{IsShortened, all_but}

pub only_needed : (s : Space) (given : List Candidate) (matchers : List KnownMatcher) (m : Matcher)
    → AreEachCubes s.labels matchers → IsOnlyNeeded s given matchers m
    → IsShortened (MeetsAll s given) (map (λ known. known.matcher.now) matchers) (m ∷ [])
only_needed s given [] m each h = absurd h
only_needed s given (known ∷ []) m each (is, (c, choice, met, misses)) =
    subst (λ (x : Matcher). IsShortened (MeetsAll s given) (known.matcher.now ∷ []) (x ∷ [])) is
    (record { marks = true ∷ []; part = refl; enough = λ set counts holds. holds; needed = needed })
  where
    own : Matcher
    own = known.matcher.now

    set : LabelMap
    set = label_set_of s.labels c

    fails : IsFalse (condition_holds set own)
    fails =
        sym (matches_where s.labels c choice.0 (own ∷ []) known.cube.now (each.0 c choice.0.0)
        ∙ and_true (condition_holds set own)) ∙ misses

    needed : (i : ℕ) (n : Matcher) → slice_get (own ∷ []) i ≡ Some n
        → SomeIs (MeetsAll s given)
        (λ x. IsTrue (all_hold x (all_but i (own ∷ []))) × IsFalse (condition_holds x n))
    needed zero n at =
        let same : own ≡ n = cc in
        (set, (c, choice, met, refl), (refl, ap (condition_holds set) (sym same) ∙ fails))
    needed (suc i) n at = absurd (cc)
only_needed s given (known ∷ other ∷ matchers) m each h = absurd h

pub is_only_needed : (s : Space) (given : List Candidate) (matchers : List KnownMatcher)
    (known : KnownMatcher) → length matchers ≡ 1 → known ≡ get_or matchers 0 known → (c : List ℕ)
    → IsChoiceOf s c → hold_all c given ≡ true → matches known.cube.now c ≡ false
    → IsOnlyNeeded s given matchers known.matcher.now
is_only_needed s given [] known one is c choice met misses = absurd (omega (arith, one))
is_only_needed s given (k ∷ []) known one is c choice met misses = (
  ap (λ (x : KnownMatcher). x.matcher.now) (sym is),
  (
    c,
    choice,
    met,
    ap (λ (x : KnownMatcher). matches x.cube.now c) (sym is) ∙ misses,
  ),
)
is_only_needed s given (k ∷ l ∷ matchers) known one is c choice met misses =
    absurd (omega (arith, one))
