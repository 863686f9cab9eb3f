use Rattle.std.proofs.Common.{◌≡◌, ◌<◌, ◌∷◌, [], Some, length, sym, ap, ◌∙◌, append_assoc, slice_get, arith}
use Rattle.std.proofs.lemmas.List.{map-append}
use Rattle.am_universe.proofs.LabelPairLemmas.{found_at}
use Rattle.am_universe.proofs.Members.{left_at}
use Rattle.am_outcomes.specs.Configurations.{silences_view}
use Rattle.am_reports.proofs.active_silences.active_silences.Goals as goal
use Rattle.am_reports.proofs.active_silences.active_silences.Goals.{then-active+in_ok-push, else-active}

-- what is left is the silence at the position and the silences after it
pub loop-position-preserved : goal.loop-position-preserved
loop-position-preserved c =
    let w = c.args.world.now in
    let i = c.loop-position.position in
    elim c.if-active.branch [
      | then-active+in_ok-push b ↦
          let here : slice_get w.silences i ≡ Some b.get.result.now =
          ap (λ xs. slice_get xs i) (sym c.silences-silences.ensures.silences) ∙ b.get.ensures.silence in
          let passes = sym (c.active.ensures.active b.get.result.now here) ∙ b.if-active.true in
          rw (b.found-is, b.in_ok-push.ensures.items, map-append, b.matchers.ensures.matchers)
          (append_assoc (silences_view c.loop-position.found.items)
          ((i, b.get.result.now.matchers) ∷ []) _
          ∙ (rw (left_at w.silences i b.get.result.now here, passes) at c.loop-position.invariant))
      | else-active b ↦
          let within : i < length w.silences =
          omega (
            arith,
            ap length c.silences-silences.ensures.silences,
            c.len-position-end.ensures.count,
            c.loop-position-test.true,
          ) in
          let here = found_at w.silences i within in
          let fails = sym (c.active.ensures.active here.0 here.1) ∙ b.if-active.false in
          rw b.found-is (rw (left_at w.silences i here.0 here.1, fails) at c.loop-position.invariant)
    ]
