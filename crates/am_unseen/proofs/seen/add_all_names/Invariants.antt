use Rattle.std.proofs.Common.{◌≡◌, fold, take}
use Rattle.std.specs.FinMap.{keys}
use Rattle.std.specs.List.{flat_map}
use Rattle.am_report_texts.specs.EachOnce.{with_text}
use Rattle.am_unseen.specs.Search.{texts_of}
use Rattle.am_unseen.proofs.seen.add_all_names.Given as goal

-- those that were there, with the names of the alerts so far
abbrev pub invariant-loop-i : goal.invariant-loop-i
invariant-loop-i l =
    texts_of l.names
    ≡ fold with_text (texts_of l.initial.names) (flat_map keys (take l.i l.alerts))
