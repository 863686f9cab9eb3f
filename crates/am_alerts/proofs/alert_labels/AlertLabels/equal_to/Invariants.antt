use Rattle.std.proofs.Common.{take}
use Rattle.am_config.specs.RouteView.{names_of}
use Rattle.am_eval.specs.Inhibition.{have_equal}
use Rattle.am_alerts.specs.AlertLabels.{Keeps}
use Rattle.am_alerts.proofs.alert_labels.AlertLabels.equal_to.Given as goal

-- those that are left have the same values for the labels so far
abbrev pub invariant-loop-name : goal.invariant-loop-name
invariant-loop-name l =
    Keeps l.self (λ s. have_equal (names_of (take l.name-index l.names)) l.set s) l.among
    l.left.items
