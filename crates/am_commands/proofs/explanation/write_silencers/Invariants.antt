use Rattle.std.proofs.Common.{take}
use Rattle.std.specs.List.{flat_map}
use Rattle.am_universe.specs.Sink.{Wrote}
use Rattle.am_commands.specs.Explanation.{silenced_line}
use Rattle.am_commands.proofs.explanation.write_silencers.Given as goal

abbrev pub invariant-loop-silence : goal.invariant-loop-silence
invariant-loop-silence g l =
    Wrote g.W.Sink.taken g.W.Sink.failures l.fn.out l.out
    (flat_map silenced_line (take l.silence-index l.silencers))
