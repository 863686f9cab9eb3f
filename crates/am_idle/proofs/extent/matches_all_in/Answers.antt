-- The two searches decide whether the list matches all label sets that the other list matches.
use Rattle.std.proofs.Common.{◌≡◌, ◌↔◌, ℕ, List, Bool, true, not, sym, ◌∙◌, subst, inl, inr}
use Rattle.std.specs.Prelude.{◌&&◌, IsTrue, IsFalse}
use Rattle.std.proofs.lemmas.Bool.{false_from_ne_true, true_from_ne_false}
use Rattle.am_universe.specs.LabelSet.{LabelMap, label_set_of}
use Rattle.am_labels.specs.Matcher.{all_hold}
use Rattle.am_labels.specs.Space.{Space, IsChoiceOf}
use Rattle.am_judged_lists.specs.Cube.{IsCubeOf, matches}
use Rattle.am_first_sets.specs.PossibleChoices.{IsPossible}
use Rattle.am_idle.proofs.FoundSets.{some_set, no_set, cube_tells, two_wanted, one_unwanted}
use Rattle.am_idle.proofs.extent.matches_all_in.Goals as goal
use Rattle.am_idle.proofs.extent.matches_all_in.Goals.{In_ok-among}

-- the cubes are those of the two lists, and the choices are those of the space
cube_is : (c : In_ok-among)
    → IsCubeOf c.args.space.now.labels c.args.matchers.now c.in_ok-cube.cube
cube_is c = rw c.universe.ensures.labels at c.in_ok-cube.ensures.exact

among_is : (c : In_ok-among)
    → IsCubeOf c.args.space.now.labels c.args.among.now c.in_ok-among.among
among_is c = rw c.universe-2.ensures.labels at c.in_ok-among.ensures.exact

choices_are : (c : In_ok-among) → (d : List ℕ)
    → IsPossible c.choices-choices.result.now d ↔ IsChoiceOf c.args.space.now d
choices_are c =
    subst (λ (s : Space). (d : List ℕ) → IsPossible c.choices-choices.result.now d ↔ IsChoiceOf s d)
    c.in_ok-possible.ensures.space c.choices-choices.ensures

-- what the first search asks: that the other list matches, and the list does not
abbrev asks_missed : In_ok-among → List ℕ → Bool
asks_missed c d =
    (matches c.in_ok-among.among d && true) && (not (matches c.in_ok-cube.cube d) && true)

abbrev Missed : In_ok-among → LabelMap → Type 0
Missed c set =
    IsTrue (all_hold set c.args.among.now) × IsFalse (all_hold set c.args.matchers.now)

missed_tells : (c : In_ok-among) → (d : List ℕ) → IsChoiceOf c.args.space.now d
    → asks_missed c d ≡ true ↔ Missed c (label_set_of c.args.space.now.labels d)
missed_tells c d choice =
    let s = c.args.space.now in
    let set = label_set_of s.labels d in
    let cube = c.in_ok-cube.cube in
    let among = c.in_ok-among.among in
    one_unwanted (matches among d) (matches cube d) (all_hold set c.args.among.now)
    (all_hold set c.args.matchers.now)
    (cube_tells s c.args.among.now among (among_is c) d choice)
    (cube_tells s c.args.matchers.now cube (cube_is c) d choice)

-- what the second asks: that both match
abbrev asks_met : In_ok-among → List ℕ → Bool
asks_met c d =
    (matches c.in_ok-among.among d && (matches c.in_ok-cube.cube d && true)) && true

abbrev Met : In_ok-among → LabelMap → Type 0
Met c set =
    IsTrue (all_hold set c.args.among.now) × IsTrue (all_hold set c.args.matchers.now)

met_tells : (c : In_ok-among) → (d : List ℕ) → IsChoiceOf c.args.space.now d
    → asks_met c d ≡ true ↔ Met c (label_set_of c.args.space.now.labels d)
met_tells c d choice =
    let s = c.args.space.now in
    let set = label_set_of s.labels d in
    let cube = c.in_ok-cube.cube in
    let among = c.in_ok-among.among in
    two_wanted (matches among d) (matches cube d) (all_hold set c.args.among.now)
    (all_hold set c.args.matchers.now)
    (cube_tells s c.args.among.now among (among_is c) d choice)
    (cube_tells s c.args.matchers.now cube (cube_is c) d choice)

pub returns-then-is_some-clause-not_all : goal.returns-then-is_some-clause-not_all
returns-then-is_some-clause-not_all c = λ is.
    let at = (goal.at.returns-then-is_some-clause-not_all c).In_ok-among in
    let r = some_set c.args.space.now (IsPossible c.choices-choices.result.now) (choices_are at)
    (asks_missed at) (Missed at) (missed_tells at) c.in_ok-missed.missed
    c.in_ok-missed.ensures.some (sym c.is_some.ensures ∙ c.if-is_some.true) in
    inl (r.0, (r.1, r.2.0), r.2.1)

pub returns-clause-all : goal.returns-clause-all
returns-clause-all c = λ is.
    let at = (goal.at.returns-clause-all c).In_ok-among in
    let s = c.args.space.now in
    let r = some_set s (IsPossible c.choices-choices.result.now) (choices_are at) (asks_met at)
    (Met at) (met_tells at) c.in_ok-matched.matched c.in_ok-matched.ensures.some
    (sym c.is_some-2.ensures ∙ is) in (
      (r.0, (r.1, r.2.0), r.2.1),
      λ set of. true_from_ne_false (all_hold set c.args.matchers.now) (λ missed.
          no_set s (IsPossible c.choices-choices.result.now) (choices_are at) (asks_missed at)
          (Missed at) (missed_tells at) c.in_ok-missed.missed c.in_ok-missed.ensures.none
          (sym c.is_some.ensures ∙ c.if-is_some.false) set of.0 (of.1, missed)),
    )

pub returns-clause-not_all : goal.returns-clause-not_all
returns-clause-not_all c = λ is.
    let at = (goal.at.returns-clause-not_all c).In_ok-among in
    inr (λ set of. false_from_ne_true (all_hold set c.args.matchers.now) (λ matched.
    no_set c.args.space.now (IsPossible c.choices-choices.result.now) (choices_are at) (asks_met at)
    (Met at) (met_tells at) c.in_ok-matched.matched c.in_ok-matched.ensures.none
    (sym c.is_some-2.ensures ∙ is) set of.0 (of.1, matched)))
