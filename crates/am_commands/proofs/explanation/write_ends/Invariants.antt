use Rattle.std.proofs.Common.{take}
use Rattle.std.specs.List.{flat_map}
use Rattle.am_universe.specs.Sink.{Wrote}
use Rattle.am_config.specs.ConfigView.{config_view}
use Rattle.am_commands.specs.Explanation.{end_line}
use Rattle.am_commands.proofs.explanation.write_ends.Given as goal

abbrev pub invariant-loop-end : goal.invariant-loop-end
invariant-loop-end g l =
    Wrote g.W.Sink.taken g.W.Sink.failures l.fn.out l.out
    (flat_map (end_line (config_view l.config)) (take l.end-index l.ends))
