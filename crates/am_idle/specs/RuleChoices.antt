-- What is found of a rule among the choices of a space. (This project's own.)
use Rattle.std.specs.Prelude.{◌≡◌, ℕ, List, true, Option, Some, None, take, drop, map}
use Rattle.std.specs.List.{AllByRecursion, AllZip, filter, filter_map, enumerate_from}
use Rattle.am_universe.specs.Universe.{Label, label_position, sizes}
use Rattle.am_universe.specs.Choice.{IsWhole}
use Rattle.am_universe.specs.LabelSet.{LabelMap, label_set_of}
use Rattle.am_labels.specs.Matcher.{Matcher, condition_holds}
use Rattle.am_labels.specs.Space.{Space, IsChoiceOf}
use Rattle.am_config.specs.ConfigFile.{Rule}
use Rattle.am_judged_lists.specs.Cube.{MaskedLabels, matches}
use Rattle.am_judged_lists.specs.Pairs.{are_same_at}
use Rattle.am_first_sets.specs.declared.candidate.Candidate.{Candidate}
use Rattle.am_first_sets.specs.declared.pairs.Pairs.{Pairs}
use Rattle.am_judged_lists.specs.declared.pairs.Side.{Side}
use Rattle.am_first_sets.specs.Pairs.{pair_choices, side_of}
use Rattle.am_first_sets.specs.PossibleChoices.{IsPossible}
use Rattle.am_idle.specs.declared.rules.IdleReason.{IdleReason}
use Rattle.am_idle.specs.declared.rules.IdleReason.TheVariants as reason_is
use Rattle.am_idle.specs.Rules.{SomeInhibit, IsWhyNone}

-- The positions of the labels with some names. Names that are not declared are left out, because no
-- label set of the universe has them.
-- Source: own choice.
-- Example: for the names `region` and `team`, if only `team` is declared, it is the position 0.
abbrev pub labels_named : List Label → List (List ℕ) → List ℕ
labels_named u names = filter_map (label_position u) names

-- The label sets of two choices of a space may meet, by some names, if the choices have the same
-- positions at the labels with these names.
abbrev pub AreMeeting : Space → List (List ℕ) → LabelMap → LabelMap → Type 0
AreMeeting s names x y =
    (c : List ℕ) × (d : List ℕ) × IsChoiceOf s c × IsChoiceOf s d
    × (are_same_at (labels_named s.labels names) c d ≡ true)
    × (x ≡ label_set_of s.labels c) × (y ≡ label_set_of s.labels d)

-- What is found of a rule, given which label sets may meet: two that inhibit, or why there are
-- none.
abbrev pub IsFoundOf : (LabelMap → LabelMap → Type 0) → Rule → Option IdleReason → Type 0
IsFoundOf Meet rule None = SomeInhibit Meet rule
IsFoundOf Meet rule (Some reason) = IsWhyNone Meet rule reason

-- ---- The literals of a side.

-- The cubes are those of the matchers of a list, one by one: each matches a pair exactly if the
-- label set of one side of the pair meets the matcher.
abbrev pub AreCubesOfMatchers : List Label → Pairs → Side → List Matcher → List MaskedLabels
    → Type 0
AreCubesOfMatchers u pairs side ms cubes =
    AllZip (λ m cube. (e : List ℕ) → IsPossible (pair_choices pairs) e
    → IsWhole (sizes u) (side_of pairs side e)
    → matches cube e ≡ condition_holds (label_set_of u (side_of pairs side e)) m) ms cubes

-- The literals ask for some cubes to match, one by one. Or they are all named.
abbrev pub AreWantedFor : List MaskedLabels → List Candidate → Type 0
AreWantedFor cubes ks = AllZip (λ cube k. (k.cube.now ≡ cube) × (k.wanted ≡ true)) cubes ks

abbrev pub AreAllNamed : List Candidate → Type 0
AreAllNamed ks = AllByRecursion (λ k. k.named ≡ true) ks

-- The positions of the literals that are named, in order.
abbrev pub named_of : List Candidate → List ℕ
named_of ks = map (λ p. p.0) (filter (λ p. p.1.named) (enumerate_from 0 ks))

-- A reason names the positions of the named literals: of those among the first `n` literals for the
-- source side, and of those among the others for the target side.
abbrev pub AreNamedIn : ℕ → List Candidate → IdleReason → Type 0
AreNamedIn n ks (reason_is.Contradiction source target) =
    (source.items ≡ named_of (take n ks)) × (target.items ≡ named_of (drop n ks))
AreNamedIn n ks reason_is.Both = ⊥
