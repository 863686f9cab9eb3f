-- What is refuted of the box is refuted of the possible choices.
use Rattle.std.proofs.Common.{◌&&◌, ap, ◌∙◌}
use Rattle.am_first_sets.specs.Solving.{avoids, marked}
use Rattle.am_first_sets.proofs.MeetingLemmas.{against_both, found_meets, none_meets_marked}
use Rattle.am_first_sets.proofs.MeetingLemmas.{if_some_more, if_none_more}
use Rattle.am_first_sets.proofs.possible_choices.PossibleChoices.refute.Goals as goal

pub returns-in_default-clause-refuted : goal.returns-in_default-clause-refuted
returns-in_default-clause-refuted c = λ d possible.
    let none = rw c.in_default.is at c.in_ok-start.ensures.none in
    ap (λ b. b && avoids (marked c.new.result.items c.args.unwanted.now) d) (none d possible.0)

pub returns-clause-refuted : goal.returns-clause-refuted
returns-clause-refuted c =
    if_some_more c.refute.result _ _
    (λ used none.
    none_meets_marked c.args.self.now c.args.wanted.now c.args.unwanted.now
    c.in_ok-cubes.ensures.0 c.as_slice.result.now c.in-Some.start used.items
    (rw c.in-Some.is at c.in_ok-start.ensures.some)
    (c.as_slice.ensures.value ∙ c.in_ok-cubes.ensures.1) c.in_ok-cubes.ensures.2 none)
    c.refute.ensures.refuted

pub returns-clause-met : goal.returns-clause-met
returns-clause-met c =
    if_none_more c.refute.result _ _
    (found_meets c.args.self.now c.args.wanted.now c.args.unwanted.now c.as_slice.result.now
    c.in-Some.start (rw c.in-Some.is at c.in_ok-start.ensures.some)
    (λ d. against_both c.args.unwanted.now c.in_ok-cubes.ensures.0 _ d _
    (c.as_slice.ensures.value ∙ c.in_ok-cubes.ensures.1) (c.in_ok-cubes.ensures.2 d)))
    c.refute.ensures.found
