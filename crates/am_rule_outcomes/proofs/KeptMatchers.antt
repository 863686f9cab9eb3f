-- The matchers that narrow a universe, with those of one label more.
use Rattle.std.proofs.Common.{◌≡◌, ℕ, ◌+◌, List, [], ◌∷◌, ◌++◌, length, take, Option, Some}
use Rattle.std.proofs.Common.{None, slice_get, refl, sym, ap, ◌∙◌, arith}
use Rattle.std.specs.Prelude.{option_and_then}
use Rattle.std.proofs.lemmas.List.{length-take-le}
use Rattle.std.proofs.lemmas.Option.{slice_get_within}
use Rattle.am_universe.specs.Universe.{Label}
use Rattle.am_labels.specs.Matcher.{Matcher}
use Rattle.am_complete.proofs.Pushed.{one_longer}
use Rattle.am_rule_outcomes.specs.Narrowing.{kept_matcher, kept_matchers}

-- the position of the value that the label at a position keeps
abbrev pub kept_at : List (Option ℕ) → ℕ → Option ℕ
kept_at kept i = option_and_then (λ k. k) (slice_get kept i)

-- the matcher of a label, if it keeps one value
abbrev pub one_matcher : Label → Option ℕ → List Matcher
one_matcher label None = []
one_matcher label (Some j) = kept_matcher label j ∷ []

kept_longer : (u : List Label) (label : Label) (kept : List (Option ℕ))
    → kept_matchers (u ++ label ∷ []) kept
    ≡ kept_matchers u kept ++ one_matcher label (kept_at kept (length u))
kept_longer [] label [] = refl
kept_longer [] label (None ∷ kept) = refl
kept_longer [] label (Some j ∷ kept) = refl
kept_longer (l ∷ u) label [] = refl
kept_longer (l ∷ u) label (None ∷ kept) = kept_longer u label kept
kept_longer (l ∷ u) label (Some j ∷ kept) =
    ap (λ ms. kept_matcher l j ∷ ms) (kept_longer u label kept)

-- the matchers so far, with that of the next label
pub kept_more : (u : List Label) (kept : List (Option ℕ)) (i : ℕ) (label : Label)
    → slice_get u i ≡ Some label → (before after : List Matcher)
    → before ≡ kept_matchers (take i u) kept → after ≡ before ++ one_matcher label (kept_at kept i)
    → after ≡ kept_matchers (take (i + 1) u) kept
kept_more u kept i label at before after so_far more =
    let within = slice_get_within u i label at in
    let long : length (take i u) ≡ i = length-take-le i u (omega (arith, within)) in
    more
    ∙ (λ j. so_far j ++ one_matcher label (kept_at kept (sym long j)))
    ∙ sym (kept_longer (take i u) label kept)
    ∙ ap (λ v. kept_matchers v kept) (one_longer u i label at)
