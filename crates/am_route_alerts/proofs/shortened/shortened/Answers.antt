-- The literals that stay named are those of the matchers that are kept.
use Rattle.std.proofs.Common.{◌≡◌, ◌-◌, ◌++◌, List, Bor, length, map, take, drop, ap, sym, ◌∙◌}
use Rattle.std.proofs.Common.{subst}
use Rattle.std.proofs.Common.{arith}
use Rattle.std.proofs.lemmas.List.{take_all, take_at, take_rest}
use Rattle.am_labels.specs.Matcher.{Matcher}
use Rattle.am_labels.specs.Space.{IsChoiceOf}
use Rattle.am_first_sets.specs.declared.candidate.Candidate.{Candidate}
use Rattle.am_first_sets.specs.PossibleSets.{possible_space}
use Rattle.am_first_sets.specs.Reason.{AreFewer, AreNamedBefore}
use Rattle.am_first_sets.specs.Solving.{marked}
use Rattle.am_route_alerts.specs.declared.matcher_cubes.KnownMatcher.{KnownMatcher}
use Rattle.am_route_alerts.specs.Implied.{IsSameFor, IsEachNeeded}
use Rattle.am_route_alerts.specs.MatcherCubes.{MeetsAll}
use Rattle.am_route_alerts.specs.Shortened.{IsShortened}
use Rattle.am_route_alerts.proofs.OnlyNeeded.{only_needed}
use Rattle.am_route_alerts.proofs.ShortenedLemmas.{literal_of, asking, named_front, marks_of}
use Rattle.am_route_alerts.proofs.ShortenedLemmas.{kept_of, kept_matchers, is_shortened}
use Rattle.am_route_alerts.proofs.shortened.shortened.Goals as goal

pub returns-in-Some : goal.returns-in-Some
returns-in-Some c =
    let s = possible_space c.args.possible.now in
    let given = c.args.given.now in
    let matchers = c.args.matchers.now in
    let ms = map (λ (known : KnownMatcher). known.matcher.now) matchers in
    record {
      shortened = subst (λ (kept : List (Bor Matcher)).
          IsShortened (MeetsAll s given) ms (map (λ (m : Bor Matcher). m.now) kept))
          (sym c.in_ok-vec.ensures.items)
          (only_needed s given matchers c.in-Some.matcher.now c.requires.cubes c.in-Some.ensures);
    }

pub returns : goal.returns
returns c =
    let s = possible_space c.args.possible.now in
    let given = c.args.given.now in
    let matchers = c.args.matchers.now in
    let n = length given in
    let lits = map literal_of matchers in
    let ms = map (λ (known : KnownMatcher). known.matcher.now) matchers in
    let new = c.leave_out_implied.new.literals in
    let told = c.in_ok-leave_out_implied.ensures in
    let possible = c.choices.ensures in
    let old : c.as_mut_slice.result.now ≡ given ++ lits =
    c.as_mut_slice.ensures.value ∙ c.loop-known.invariant
    ∙ ap (λ known. given ++ map literal_of known)
    (take_all c.loop-known.known-index matchers c.loop-known-test.false) in
    let same : IsSameFor (IsChoiceOf s) (given ++ lits) new =
    subst (λ (ks : List Candidate). IsSameFor (IsChoiceOf s) ks new) old
    (λ d is. told.same d ((possible d).1 is)) in
    let needed : IsEachNeeded (IsChoiceOf s) n new =
    λ i k at le named.
    let met = told.needed i k at le named in (met.0, (possible met.0).0 met.1, met.2) in
    let short : IsShortened (MeetsAll s given) ms (marked (marks_of (drop n new)) ms) =
    is_shortened s given lits new ms (asking s matchers c.requires.cubes) c.requires.named
    (subst (λ (ks : List Candidate). AreFewer ks new) old told.fewer)
    (told.first (subst (AreNamedBefore n) (sym old) (named_front given lits c.requires.named)))
    same needed in
    let all = c.deref.result.now in
    let long : length new ≡ c.loop-known.literals.len =
    omega (arith, ap length c.as_mut_slice.ensures.value, c.loop-known.literals.ok.0) in
    let rest : take (length all - n) (drop n all) ≡ drop n new =
    take_rest all n
    ∙ ap (drop n) (c.deref.ensures.value
    ∙ take_at new (drop (length new) c.loop-known.literals.items) c.loop-known.literals.len long) in
    record {
      shortened = subst (IsShortened (MeetsAll s given) ms)
          (sym (ap (map (λ (m : Bor Matcher). m.now))
          (c.in_ok-named_matchers.ensures ∙ ap (λ ks. kept_of ks matchers) rest)
          ∙ kept_matchers (drop n new) matchers)) short;
    }
