use Rattle.std.proofs.Common.{◌≡◌, drop}
use Rattle.am_config.specs.ConfigView.{config_view}
use Rattle.am_report_texts.specs.ReceiverNames.{receiver_names}
use Rattle.am_outcomes.specs.Changes.{is_among}
use Rattle.am_outcomes.specs.OutcomesView.{lists_view, names_on}
use Rattle.am_outcomes.proofs.changes.is_among.Given as goal

-- the receivers that are left decide
abbrev pub invariant-loop-receiver : goal.invariant-loop-receiver
invariant-loop-receiver l =
    is_among (receiver_names (config_view l.side.config.now) (drop l.receiver-index l.receiver-items))
    l.name
    ≡ is_among (names_on l.side (lists_view l.lists)) l.name
