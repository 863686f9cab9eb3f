-- The possible choices are those of the space.
use Rattle.am_first_sets.specs.PossibleSets.{possible_space}
use Rattle.am_first_sets.proofs.MeetingLemmas.{choices_of, if_some_more, if_none_more}
use Rattle.am_first_sets.proofs.possible_sets.PossibleSets.some_meeting.Goals as goal

pub returns-clause-some : goal.returns-clause-some
returns-clause-some c = if_some_more c.meeting.result _ _ (λ b found. found.some) c.meeting.ensures.some

pub returns-clause-meeting : goal.returns-clause-meeting
returns-clause-meeting c =
    let self = c.args.self.now in
    if_some_more c.meeting.result _ _
    (λ b found d inside.
    let met = found.each d inside in
    ((choices_of (possible_space self) self.choices self.are_choices d).0 met.0, met.1))
    c.meeting.ensures.some

pub returns-clause-none : goal.returns-clause-none
returns-clause-none c =
    let self = c.args.self.now in
    if_none_more c.meeting.result _ _
    (λ none d is. none d ((choices_of (possible_space self) self.choices self.are_choices d).1 is))
    c.meeting.ensures.none
