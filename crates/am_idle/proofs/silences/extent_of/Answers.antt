-- The space is as it was when it was found that some alert matches.
use Rattle.std.proofs.Common.{sym, subst}
use Rattle.am_labels.specs.Space.{Space}
use Rattle.am_every_alert.specs.EveryAlert.{IsAlertOf}
use Rattle.am_idle.specs.Extent.{MatchesOne}
use Rattle.am_idle.specs.KnownExtents.{IsMade, IsFound}
use Rattle.am_idle.proofs.SilenceSteps.{same_space}
use Rattle.am_idle.proofs.silences.extent_of.Goals as goal

pub returns-in_ok-extent_of_matching-in-Ok-Ok-true-clause-found : goal.returns-in_ok-extent_of_matching-in-Ok-Ok-true-clause-found
returns-in_ok-extent_of_matching-in-Ok-Ok-true-clause-found c =
    let a = c.args.alphabet in
    let s = c.args.space.now in
    let ms = c.args.matchers.now in
    let found = c.in-Ok-Ok-true in
    let some : MatchesOne (IsAlertOf a s) ms =
    (rw found.field-0-is at found.ensures.some) found.field-0-0-test in
    let made : IsMade a s ms = found.ensures.made in
    let same = same_space c.matches_some.new.space s found.ensures.labels c.requires
    found.ensures.impossible in
    subst (λ (t : Space). IsFound a t ms c.in_ok-extent_of_matching-in-Ok-Ok-true.field-0) same
    (c.in_ok-extent_of_matching-in-Ok-Ok-true.ensures.found a
    (subst (λ (t : Space). IsMade a t ms) (sym same) made)
    (subst (λ (t : Space). MatchesOne (IsAlertOf a t) ms) (sym same) some))
