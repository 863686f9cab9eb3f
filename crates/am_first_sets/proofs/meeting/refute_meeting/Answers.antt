-- The cubes of the named literals say whether these are met.
use Rattle.std.proofs.Common.{◌∙◌, sym}
use Rattle.am_first_sets.proofs.MeetingLemmas.{by_cubes, if_none_more}
use Rattle.am_first_sets.proofs.meeting.refute_meeting.Goals as goal

pub returns-clause-refuted : goal.returns-clause-refuted
returns-clause-refuted c =
    let asked = c.in_ok-asked.ensures in
    rw (c.as_slice.ensures.value, c.as_slice-2.ensures.value, asked.wanted, asked.unwanted)
    at c.refute.ensures.refuted

pub returns-clause-met : goal.returns-clause-met
returns-clause-met c =
    let asked = c.in_ok-asked.ensures in
    if_none_more c.refute.result _ _
    (λ met. (met.0, met.1, sym (by_cubes met.0 c.args.candidates.now) ∙ met.2))
    (rw (c.as_slice.ensures.value, c.as_slice-2.ensures.value, asked.wanted, asked.unwanted)
    at c.refute.ensures.met)
