use Rattle.std.proofs.Common.{ap, sym, ◌∙◌, fold}
use Rattle.std.proofs.lemmas.Option.{slice_get_within, get_or_from_slice_get}
use Rattle.am_complete.specs.AskedLabel.{with_asked}
use Rattle.am_asked.specs.Placed.{placed_at, placed_in_silence}
use Rattle.am_complete.specs.declared.origin.Origin.TheVariants as origin_is
use Rattle.am_asked.proofs.PlacedSteps.{one_more_thing}
use Rattle.am_asked.proofs.asked.add_silences.Goals as goal

pub loop-i-preserved : goal.loop-i-preserved
loop-i-preserved c =
    let silences = c.args.silences.now in
    let silence = c.get-silence.result.now in
    let i = c.loop-i.i in
    one_more_thing with_asked placed_in_silence silences i silence c.loop-i.gathering _ _
    (slice_get_within silences i silence c.get-silence.ensures.silence)
    (sym (get_or_from_slice_get silences i silence silence c.get-silence.ensures.silence))
    (c.in_ok-visit_matchers.ensures.visit
    ∙ ap (λ ms. fold with_asked c.loop-i.gathering (placed_at (origin_is.Silence i) ms))
    c.matchers.ensures.matchers)
    c.loop-i.invariant
