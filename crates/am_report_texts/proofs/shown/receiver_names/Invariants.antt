use Rattle.std.proofs.Common.{◌≡◌, map, take}
use Rattle.am_config.specs.ConfigView.{config_view}
use Rattle.am_report_texts.specs.ReceiverNames.{receiver_names}
use Rattle.am_report_texts.proofs.shown.receiver_names.Given as goal

abbrev pub invariant-loop-receiver : goal.invariant-loop-receiver
invariant-loop-receiver l =
    map (λ n. n.now) l.names.items
    ≡ receiver_names (config_view l.config) (take l.receiver-index l.receivers)
