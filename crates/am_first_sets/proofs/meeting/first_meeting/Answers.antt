-- The cubes of the named literals say whether these are met.
use Rattle.std.proofs.Common.{◌∙◌}
use Rattle.std.specs.List.{find}
use Rattle.am_labels.specs.Space.{all_choices}
use Rattle.am_first_sets.specs.PossibleSets.{possible_space}
use Rattle.am_first_sets.proofs.MeetingLemmas.{by_cubes, if_ok_more}
use Rattle.am_first_sets.proofs.meeting.first_meeting.Goals as goal

pub returns-clause-first : goal.returns-clause-first
returns-clause-first c =
    let asked = c.in_ok-asked.ensures in
    if_ok_more c.first_meeting.result _ _
    (λ found first.
    first ∙ (λ i. find (λ d. by_cubes d c.args.candidates.now i)
    (all_choices (possible_space c.args.possible.now))))
    (rw (c.as_slice.ensures.value, c.as_slice-2.ensures.value, asked.wanted, asked.unwanted)
    at c.first_meeting.ensures.first)
