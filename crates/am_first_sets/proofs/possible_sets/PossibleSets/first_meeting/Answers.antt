-- The first choice of the box that the cubes do not match is the first that is asked for.
use Rattle.std.proofs.Common.{◌&&◌, ◌∙◌}
use Rattle.am_universe.specs.Universe.{sizes}
use Rattle.am_universe.specs.Choice.{choices}
use Rattle.am_labels.specs.Space.{is_possible_choice}
use Rattle.am_first_sets.specs.PossibleSets.{possible_space}
use Rattle.am_first_sets.specs.Meeting.{meets_cubes}
use Rattle.am_first_sets.proofs.FirstPossible.{find_kept, found_of_space}
use Rattle.am_first_sets.proofs.MeetingLemmas.{against_both, is_test, found_none, if_ok_more}
use Rattle.am_first_sets.proofs.possible_sets.PossibleSets.first_meeting.Goals as goal

pub returns-in_default-clause-first : goal.returns-in_default-clause-first
returns-in_default-clause-first c =
    let self = c.args.self.now in
    found_none (possible_space self) self.choices c.args.wanted.now c.args.unwanted.now
    self.are_choices (rw c.in_default.is at c.in_ok-positions.ensures.none)

pub first_avoiding-requires : goal.first_avoiding-requires
first_avoiding-requires c = λ d inside.
    let some = rw c.in-Some.is at c.in_ok-positions.ensures.some in
    rw c.universe.ensures.labels ((c.args.self.now.are_choices.whole d).0 ((some d).0 inside).0)

pub returns-clause-first : goal.returns-clause-first
returns-clause-first c =
    let self = c.args.self.now in
    let s = possible_space self in
    let asked = meets_cubes c.args.wanted.now c.args.unwanted.now in
    let keep = is_possible_choice s in
    if_ok_more c.first_avoiding.result _ _
    (λ found first.
    first (λ d. asked d && keep d)
    (is_test self.choices c.args.wanted.now c.args.unwanted.now c.as_slice.result.now
    c.in-Some.positions (rw c.in-Some.is at c.in_ok-positions.ensures.some)
    (λ d. against_both c.args.unwanted.now c.in_ok-cubes.ensures.0 _ d _
    (c.as_slice.ensures.value ∙ c.in_ok-cubes.ensures.1) (c.in_ok-cubes.ensures.2 d))
    s self.are_choices)
    ∙ find_kept asked keep (choices (sizes s.labels)))
    (rw c.universe.ensures.labels at c.first_avoiding.ensures.first)

pub returns-clause-possible : goal.returns-clause-possible
returns-clause-possible c =
    if_ok_more c.first_avoiding.result _ _
    (λ found first.
    found_of_space (possible_space c.args.self.now)
    (meets_cubes c.args.wanted.now c.args.unwanted.now) found first)
    (returns-clause-first c)
