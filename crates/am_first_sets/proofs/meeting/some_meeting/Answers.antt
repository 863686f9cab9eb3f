-- The cubes of the named literals say whether these are met.
use Rattle.std.proofs.Common.{◌∙◌, sym}
use Rattle.am_first_sets.proofs.MeetingLemmas.{by_cubes, if_some_more, if_none_more}
use Rattle.am_first_sets.proofs.meeting.some_meeting.Goals as goal

pub returns-clause-some : goal.returns-clause-some
returns-clause-some c =
    let asked = c.in_ok-asked.ensures in
    if_some_more c.meeting.result _ _
    (λ b meeting. record {
      some = meeting.some;
      each = λ d inside.
          let met = meeting.each d inside in (met.0, sym (by_cubes d c.args.candidates.now) ∙ met.1);
    })
    (rw (c.as_slice.ensures.value, c.as_slice-2.ensures.value, asked.wanted, asked.unwanted)
    at c.meeting.ensures.some)

pub returns-clause-none : goal.returns-clause-none
returns-clause-none c =
    let asked = c.in_ok-asked.ensures in
    if_none_more c.meeting.result _ _
    (λ none d possible. sym (by_cubes d c.args.candidates.now) ∙ none d possible)
    (rw (c.as_slice.ensures.value, c.as_slice-2.ensures.value, asked.wanted, asked.unwanted)
    at c.meeting.ensures.none)
