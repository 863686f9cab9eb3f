use Rattle.std.proofs.Common.{◌≡◌, take}
use Rattle.std.specs.List.{filter}
use Rattle.am_report_texts.specs.EachOnce.{each_once}
use Rattle.am_firing.specs.Deciding.{texts_of}
use Rattle.am_firing.specs.Wide.{lacks}
use Rattle.am_firing.proofs.wide.lacked_names.Given as goal

-- the labels so far that the alert lacks
abbrev pub invariant-loop-name : goal.invariant-loop-name
invariant-loop-name l =
    texts_of l.names ≡ each_once (filter (lacks l.alert) (take l.name-index l.rule.equal))
