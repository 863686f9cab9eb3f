-- The answer of the search is a box of choices that are possible and meet the cubes.
use Rattle.std.proofs.Common.{◌&&◌, ap, ◌∙◌}
use Rattle.am_first_sets.specs.Solving.{avoids}
use Rattle.am_first_sets.proofs.MeetingLemmas.{against_both, answer_meets, none_meets, if_some_more, if_none_more}
use Rattle.am_first_sets.proofs.possible_choices.PossibleChoices.meeting.Goals as goal

pub returns-in_default-clause-none : goal.returns-in_default-clause-none
returns-in_default-clause-none c = λ d possible.
    let none = rw c.in_default.is at c.in_ok-start.ensures.none in
    ap (λ b. b && avoids c.args.unwanted.now d) (none d possible.0)

pub returns-clause-some : goal.returns-clause-some
returns-clause-some c =
    if_some_more c.solve.result _ _
    (answer_meets c.args.self.now c.args.wanted.now c.args.unwanted.now c.as_slice.result.now
    c.in-Some.start (rw c.in-Some.is at c.in_ok-start.ensures.some)
    (λ d. against_both c.args.unwanted.now c.in_ok-cubes.ensures.0 _ d _
    (c.as_slice.ensures.value ∙ c.in_ok-cubes.ensures.1) (c.in_ok-cubes.ensures.2 d)))
    c.solve.ensures.found

pub returns-clause-none : goal.returns-clause-none
returns-clause-none c =
    if_none_more c.solve.result _ _
    (none_meets c.args.self.now c.args.wanted.now c.args.unwanted.now c.as_slice.result.now
    c.in-Some.start (rw c.in-Some.is at c.in_ok-start.ensures.some)
    (λ d. against_both c.args.unwanted.now c.in_ok-cubes.ensures.0 _ d _
    (c.as_slice.ensures.value ∙ c.in_ok-cubes.ensures.1) (c.in_ok-cubes.ensures.2 d)))
    c.solve.ensures.none
