-- Which of the states that read a byte are accepted does not change.
use Rattle.std.proofs.Common.{◌≡◌, vec_len}
use Rattle.am_scan.specs.Closure.{contains, AcceptsReads}
use Rattle.am_scan.proofs.pattern_scan.PatternScan.closure.Given as goal

abbrev pub invariant-loop : goal.invariant-loop
invariant-loop l = record {
  len : vec_len l.accepted ≡ vec_len l.self.nfa.states;
  reads : AcceptsReads l.self.nfa (contains l.state.reads.items) l.accepted.items;
}
