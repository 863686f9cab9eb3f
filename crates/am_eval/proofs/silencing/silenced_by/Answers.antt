use Rattle.std.proofs.Common.{◌≡◌, [], ◌∷◌, Some, ap, sym, ◌∙◌, append_assoc}
use Rattle.std.specs.Prelude.{slice_get}
use Rattle.am_universe.proofs.Members.{left_at}
use Rattle.am_eval.proofs.silencing.silenced_by.Goals as goal
use Rattle.am_eval.proofs.silencing.silenced_by.Goals.{then-branch+in_ok-push, else-branch}

-- what is left is the silence at the position and the silences after it
pub loop-i-preserved : goal.loop-i-preserved
loop-i-preserved c =
    let all = c.args.world.now.silences in
    let i = c.loop-i.i in
    let silence = c.get.result.now in
    let here : slice_get all i ≡ Some silence =
    ap (λ xs. slice_get xs i) (sym c.silences-in-loop-i.ensures.silences) ∙ c.get.ensures.silence in
    elim c.if-branch.branch [
      | then-branch+in_ok-push w ↦
          let passes = sym c.in_ok-hides.ensures ∙ w.if-branch.true in
          rw (w.found-is, w.in_ok-push.ensures.items) (append_assoc c.loop-i.found.items (i ∷ []) _
          ∙ (rw (left_at all i silence here, passes) at c.loop-i.invariant))
      | else-branch w ↦
          let fails = sym c.in_ok-hides.ensures ∙ w.if-branch.false in
          rw w.found-is (rw (left_at all i silence here, fails) at c.loop-i.invariant)
    ]
