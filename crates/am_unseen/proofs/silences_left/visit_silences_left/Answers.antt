-- A silence is over, or its matchers are visited.
use Rattle.std.proofs.Common.{◌≡◌, ◌+◌, ◌<◌, length, Some, fold, sym, ap, ◌∙◌, arith}
use Rattle.std.specs.Prelude.{slice_get}
use Rattle.am_universe.proofs.LabelPairLemmas.{found_at}
use Rattle.am_asked.specs.Placed.{placed_at}
use Rattle.am_complete.specs.declared.origin.Origin.TheVariants as origin_is
use Rattle.am_unseen.proofs.SilenceSteps.{one_over, one_left, left_from}
use Rattle.am_unseen.proofs.silences_left.visit_silences_left.Goals as goal
use Rattle.am_unseen.proofs.silences_left.visit_silences_left.Goals.{else-not-over}
use Rattle.am_unseen.proofs.silences_left.visit_silences_left.Goals.{then-not-over+in_ok-visit_matchers}

pub loop-i-preserved : goal.loop-i-preserved
loop-i-preserved g c =
    let after = g.V.Visitor.after in
    let world = c.args.world.now in
    let i = c.loop-i.i in
    let now = c.loop-i.visitor in
    elim c.if-not-over.branch [
      | then-not-over+in_ok-visit_matchers w ↦
          let silence = w.get.result.now in
          let at : slice_get world.silences i ≡ Some silence =
          ap (λ silences. slice_get silences i) (sym c.silences-silences.ensures.silences)
          ∙ w.get.ensures.silence in
          one_left after world i silence now c.if-not-over.visitor _ at
          (sym (c.over.ensures.over silence at) ∙ w.if-not-over.true)
          (w.visitor-is ∙ w.in_ok-visit_matchers.ensures.visit
          ∙ ap (λ ms. fold after now (placed_at (origin_is.Silence i) ms))
          w.matchers.ensures.matchers)
          c.loop-i.invariant
      | else-not-over w ↦
          let within : i < length world.silences =
          omega (
            arith,
            c.len-i-end.ensures.count,
            ap length c.silences-silences.ensures.silences,
            c.loop-i-test.true,
          ) in
          let there = found_at world.silences i within in
          ap (λ s. fold after s (left_from world (i + 1))) w.visitor-is
          ∙ one_over after world i there.0 now _ there.1
          (sym (c.over.ensures.over there.0 there.1) ∙ w.if-not-over.false) c.loop-i.invariant
    ]
