-- One more state.
use Rattle.std.proofs.Common.{◌+◌, ◌-◌, sym, ap, ◌∙◌, subst, arith}
use Rattle.am_scan.specs.Closure.{reads_byte}
use Rattle.am_scan.proofs.ClosureLemmas.{AreIdle, AreIdle-more, AreIdle-same}
use Rattle.am_scan.proofs.pattern_scan.idle_states.Goals as goal
use Rattle.am_scan.proofs.pattern_scan.idle_states.Goals.{then-not-reads_byte+in_ok-push, else-not-reads_byte}

pub loop-k-preserved : goal.loop-k-preserved
loop-k-preserved c =
    let nfa = c.args.nfa.now in
    let id = c.len-len.result - 1 - c.loop-k.k in
    elim c.if-not-reads_byte.branch [
      | then-not-reads_byte+in_ok-push w ↦
          AreIdle-more nfa c.loop-k.idle.items c.if-not-reads_byte.idle.items id c.loop-k.k c.loop-k.invariant
          (ap (λ v. v.items) w.idle-is ∙ w.in_ok-push.ensures.items) (omega (arith, c.len-len.ensures))
          (ap reads_byte (sym c.state.ensures.is) ∙ sym c.reads_byte.ensures ∙ w.if-not-reads_byte.true)
      | else-not-reads_byte w ↦
          subst (λ v. AreIdle nfa v.items (c.loop-k.k + 1)) (sym w.idle-is)
          (AreIdle-same nfa c.loop-k.idle.items id c.loop-k.k c.loop-k.invariant (omega (arith, c.len-len.ensures))
          (ap reads_byte (sym c.state.ensures.is) ∙ sym c.reads_byte.ensures ∙ w.if-not-reads_byte.false))
    ]
