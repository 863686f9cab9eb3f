use Rattle.std.proofs.Common.{take}
use Rattle.std.specs.List.{flat_map}
use Rattle.am_universe.specs.Sink.{Wrote}
use Rattle.am_config.specs.Path.{step_text}
use Rattle.am_config.proofs.path.Path.write.Given as goal

-- the first `i` positions were written
abbrev pub invariant-loop-i : goal.invariant-loop-i
invariant-loop-i g l =
    Wrote g.W.Sink.taken g.W.Sink.failures l.fn.out l.out (flat_map step_text (take l.i l.self))
