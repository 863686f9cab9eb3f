use Rattle.std.proofs.Common.{◌≡◌, take}
use Rattle.am_config.specs.ConfigView.{config_view}
use Rattle.am_outcomes.specs.Changes.{first_on_one_side, without_groups}
use Rattle.am_outcomes.specs.OutcomesView.{founds_view, names_on}
use Rattle.am_outcomes.proofs.changes.first_on_one_side.Given as goal

-- the receivers so far
abbrev pub invariant-loop-receiver : goal.invariant-loop-receiver
invariant-loop-receiver l =
    founds_view l.found.items
    ≡ first_on_one_side (names_on l.side) (names_on l.other) (without_groups l.changes)
    (take l.receiver (config_view l.side.config.now).receivers)
