use Rattle.std.proofs.Common.{◌≤◌, ℕ, List}
use Rattle.am_universe.specs.Sink.{Wrote}
use Rattle.am_universe.proofs.QuotedTextLemmas.{IsWhole}
use Rattle.am_universe.proofs.write.write_escaped.Given as goal

-- `done` is written; the bytes from `start` to `i` stand for themselves.
abbrev pub invariant-loop-i : goal.invariant-loop-i
invariant-loop-i g l = record {
  done : List ℕ;
  order : l.start ≤ l.i;
  written : Wrote g.W.Sink.taken g.W.Sink.failures l.fn.out l.out done;
  whole : IsWhole l.bytes done l.start l.i;
}
