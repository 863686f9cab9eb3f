use Rattle.std.proofs.Common.{take}
use Rattle.std.specs.List.{flat_map}
use Rattle.am_universe.specs.Sink.{Wrote}
use Rattle.am_config.specs.ConfigView.{config_view}
use Rattle.am_coverage.specs.WrittenCoverage.{receiver_line}
use Rattle.am_coverage.proofs.report.write_receivers.Given as goal

-- the lines of the receivers so far are written
abbrev pub invariant-loop-found : goal.invariant-loop-found
invariant-loop-found g l =
    Wrote g.W.Sink.taken g.W.Sink.failures l.fn.out l.out
    (flat_map (receiver_line l.universe (config_view l.config).receivers)
    (take l.found-index l.receivers))
