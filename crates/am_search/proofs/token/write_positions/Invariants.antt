use Rattle.std.proofs.Common.{◌≡◌, take}
use Rattle.am_universe.specs.Sink.{Wrote}
use Rattle.am_search.proofs.Positions.{joined, separator}
use Rattle.am_search.proofs.token.write_positions.Given as goal

-- the first positions are written
abbrev pub invariant-loop-i : goal.invariant-loop-i
invariant-loop-i g l = record {
  written : Wrote g.W.Sink.taken g.W.Sink.failures l.fn.out l.out (joined (take l.i l.choice));
  separator : l.separator ≡ separator (take l.i l.choice);
}
