-- The search decides whether the list matches a label set.
use Rattle.std.proofs.Common.{◌≡◌, ◌↔◌, ℕ, List, Bool, true, sym, ◌∙◌, subst}
use Rattle.std.specs.Prelude.{◌&&◌}
use Rattle.std.proofs.lemmas.Bool.{false_from_ne_true}
use Rattle.am_universe.specs.LabelSet.{LabelMap, label_set_of}
use Rattle.am_labels.specs.Matcher.{all_hold}
use Rattle.am_labels.specs.Space.{Space, IsChoiceOf}
use Rattle.am_judged_lists.specs.Cube.{IsCubeOf, matches}
use Rattle.am_first_sets.specs.PossibleChoices.{IsPossible}
use Rattle.am_idle.proofs.FoundSets.{some_set, no_set, cube_tells, one_wanted}
use Rattle.am_idle.proofs.extent.matches_some_in.Goals as goal
use Rattle.am_idle.proofs.extent.matches_some_in.Goals.{In_ok-found}

-- the choices are those of the space
choices_are : (c : In_ok-found) → (d : List ℕ)
    → IsPossible c.choices.result.now d ↔ IsChoiceOf c.args.space.now d
choices_are c =
    subst (λ (s : Space). (d : List ℕ) → IsPossible c.choices.result.now d ↔ IsChoiceOf s d)
    c.in_ok-possible.ensures.space c.choices.ensures

-- what is asked of a choice, which tells whether the list matches its label set
abbrev asked : In_ok-found → List ℕ → Bool
asked c d = (matches c.in_ok-cube.cube d && true) && true

abbrev Has : In_ok-found → LabelMap → Type 0
Has c set = all_hold set c.args.matchers.now ≡ true

tells : (c : In_ok-found) → (d : List ℕ) → IsChoiceOf c.args.space.now d
    → asked c d ≡ true ↔ Has c (label_set_of c.args.space.now.labels d)
tells c d choice =
    let s = c.args.space.now in
    let ms = c.args.matchers.now in
    let cube = c.in_ok-cube.cube in
    let is : IsCubeOf s.labels ms cube =
    rw c.universe.ensures.labels at c.in_ok-cube.ensures.exact in
    one_wanted (matches cube d) (all_hold (label_set_of s.labels d) ms)
    (cube_tells s ms cube is d choice)

pub returns-clause-some : goal.returns-clause-some
returns-clause-some c = λ is.
    let at = (goal.at.returns-clause-some c).In_ok-found in
    some_set c.args.space.now (IsPossible c.choices.result.now) (choices_are at) (asked at) (Has at)
    (tells at) c.in_ok-found.found c.in_ok-found.ensures.some (sym c.is_some.ensures ∙ is)

pub returns-clause-none : goal.returns-clause-none
returns-clause-none c = λ is set of.
    let at = (goal.at.returns-clause-none c).In_ok-found in
    false_from_ne_true (all_hold set c.args.matchers.now)
    (no_set c.args.space.now (IsPossible c.choices.result.now) (choices_are at) (asked at) (Has at)
    (tells at) c.in_ok-found.found c.in_ok-found.ensures.none (sym c.is_some.ensures ∙ is) set of)
