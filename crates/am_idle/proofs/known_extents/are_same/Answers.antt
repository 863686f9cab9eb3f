-- One more matcher that is the same.
use Rattle.std.proofs.Common.{◌≡◌, [], ◌∷◌, ◌++◌, sym, ◌∙◌}
use Rattle.am_complete.proofs.Pushed.{one_longer}
use Rattle.am_idle.proofs.known_extents.are_same.Goals as goal

pub loop-i-preserved : goal.loop-i-preserved
loop-i-preserved c =
    let i = c.loop-i.i in
    let matcher = c.get.result.now in
    let other = c.get-in-loop-i.result.now in
    let same : matcher ≡ other = c.is_same.ensures c.if-not-is_same.false in
    sym (one_longer c.args.list.now i matcher c.get.ensures.matcher)
    ∙ (λ k. c.loop-i.invariant k ++ same k ∷ [])
    ∙ one_longer c.args.other.now i other c.get-in-loop-i.ensures.matcher
