-- The states for the columns so far.
use Rattle.std.proofs.Common.{◌≡◌, take, vec_len, IfSome}
use Rattle.am_scan.specs.Automaton.{AreNext, AreSteps}
use Rattle.am_scan.proofs.pattern_scan.PatternScan.next_states.Given as goal

abbrev pub invariant-loop-class : goal.invariant-loop-class
invariant-loop-class l = record {
  last : IfSome l.last (λ steps. AreSteps l.self l.columns.columns.items l.state steps);
  count : vec_len l.nexts ≡ l.class;
  each : AreNext l.self (take l.class l.columns.columns.items) l.state l.nexts.items;
}
