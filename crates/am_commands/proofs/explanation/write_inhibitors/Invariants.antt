use Rattle.std.proofs.Common.{take}
use Rattle.std.specs.List.{flat_map}
use Rattle.am_universe.specs.Sink.{Wrote}
use Rattle.am_commands.specs.Explanation.{inhibited_line}
use Rattle.am_commands.proofs.explanation.write_inhibitors.Given as goal

abbrev pub invariant-loop-rule : goal.invariant-loop-rule
invariant-loop-rule g l =
    Wrote g.W.Sink.taken g.W.Sink.failures l.fn.out l.out
    (flat_map inhibited_line (take l.rule-index l.inhibitors))
