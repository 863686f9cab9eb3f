use Rattle.std.proofs.Common.{◌≡◌, map, take}
use Rattle.am_config.specs.ConfigView.{config_view}
use Rattle.am_outcomes.specs.Changes.{changes_of, shown_change}
use Rattle.am_outcomes.proofs.changes.shown_changes.Given as goal

-- the changes so far
abbrev pub invariant-loop-i : goal.invariant-loop-i
invariant-loop-i l =
    l.changes.items
    ≡ map (shown_change l.universe)
    (changes_of (config_view l.old) (config_view l.new) (take l.i l.outcomes))
