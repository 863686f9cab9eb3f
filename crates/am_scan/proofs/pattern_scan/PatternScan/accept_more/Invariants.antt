-- As long as nothing has changed, each state so far is accepted exactly if the accepted states say
-- so.
use Rattle.std.proofs.Common.{◌≡◌, ℕ, ◌<◌, false, slice_index, slice_index_or}
use Rattle.regex_nfa.specs.Run.{state_of}
use Rattle.am_scan.specs.Closure.{accepts, contains, AcceptsReads}
use Rattle.am_scan.proofs.pattern_scan.PatternScan.accept_more.Given as goal

abbrev pub invariant-loop-id : goal.invariant-loop-id
invariant-loop-id l = record {
  reads : AcceptsReads l.self.nfa (contains l.state.reads.items) l.accepted;
  same : l.changed ≡ false → (k : ℕ) → k < l.id-index
      → slice_index_or l.accepted (slice_index l.self.idle.items k) false
      ≡ accepts l.state.first l.before l.accepted (contains l.state.reads.items (slice_index l.self.idle.items k))
      (state_of l.self.nfa (slice_index l.self.idle.items k));
}
