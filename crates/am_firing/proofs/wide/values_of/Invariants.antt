use Rattle.std.proofs.Common.{◌≡◌, take}
use Rattle.am_config.specs.RouteView.{names_of}
use Rattle.am_firing.specs.Deciding.{texts_of, values_of}
use Rattle.am_firing.proofs.wide.values_of.Given as goal

-- the values for the labels so far
abbrev pub invariant-loop-name : goal.invariant-loop-name
invariant-loop-name l =
    texts_of l.found ≡ values_of (names_of (take l.name-index l.names)) l.alert
