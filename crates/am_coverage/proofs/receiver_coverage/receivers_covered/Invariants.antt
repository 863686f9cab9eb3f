use Rattle.std.proofs.Common.{◌≡◌, map}
use Rattle.std.specs.List.{range_with_len}
use Rattle.am_config.specs.ConfigView.{config_view}
use Rattle.am_coverage.specs.CoverageView.{receiver_found}
use Rattle.am_coverage.proofs.receiver_coverage.receivers_covered.Given as goal

-- each receiver so far is found
abbrev pub invariant-loop-receiver : goal.invariant-loop-receiver
invariant-loop-receiver l =
    l.found.items ≡ map (receiver_found l.space (config_view l.config)) (range_with_len 0 l.receiver)
