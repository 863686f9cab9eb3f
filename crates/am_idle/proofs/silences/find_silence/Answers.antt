-- A silence that is not over, by what its matchers match.
use Rattle.std.proofs.Common.{sym, ◌∙◌, option_map}
use Rattle.am_idle.proofs.SilenceSteps.{said_if_not_known}
use Rattle.am_idle.proofs.silences.find_silence.Goals as goal

pub returns-in_ok-finding_of-in-Ok-Ok-clause-found : goal.returns-in_ok-finding_of-in-Ok-Ok-clause-found
returns-in_ok-finding_of-in-Ok-Ok-clause-found c =
    let lasts = sym (c.over.ensures.over c.args.silence.now c.requires.silence) ∙ c.if-over.false in
    let found = rw (c.in-Ok-Ok.field-0-is, c.matchers.ensures.matchers) at c.in-Ok-Ok.ensures.found in
    c.in_ok-finding_of-in-Ok-Ok.ensures c.args.alphabet c.args.space.now lasts found.1

pub returns-in-Ok-Err-clause-found : goal.returns-in-Ok-Err-clause-found
returns-in-Ok-Err-clause-found c =
    let lasts = sym (c.over.ensures.over c.args.silence.now c.requires.silence) ∙ c.if-over.false in
    let found = rw (c.in-Ok-Err.field-0-is, c.matchers.ensures.matchers) at c.in-Ok-Err.ensures.found in
    said_if_not_known c.args.alphabet c.args.space.now c.args.world.now
    (option_map (λ a. a.now) c.args.alerts) c.args.silence.now c.in-Ok-Err.finding lasts found.1
