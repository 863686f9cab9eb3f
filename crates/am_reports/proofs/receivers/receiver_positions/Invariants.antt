use Rattle.std.proofs.Common.{map, take}
use Rattle.am_config.specs.ConfigView.{config_view}
use Rattle.am_reports.specs.AskedReceivers.{ArePositions}
use Rattle.am_reports.proofs.receivers.receiver_positions.Given as goal

-- the positions so far are those of the names so far
abbrev pub invariant-loop-name : goal.invariant-loop-name
invariant-loop-name l =
    ArePositions (config_view l.config) (map (λ name. name.now) (take l.name-index l.names))
    l.positions.items
