-- The states that read no byte among the last ones.
use Rattle.am_scan.proofs.ClosureLemmas.{AreIdle}
use Rattle.am_scan.proofs.pattern_scan.idle_states.Given as goal

abbrev pub invariant-loop-k : goal.invariant-loop-k
invariant-loop-k l = AreIdle l.nfa l.idle.items l.k
