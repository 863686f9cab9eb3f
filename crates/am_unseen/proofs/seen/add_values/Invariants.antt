use Rattle.std.proofs.Common.{◌≡◌, fold, take}
use Rattle.am_report_texts.specs.EachOnce.{with_text}
use Rattle.am_unseen.specs.Unseen.{all_values}
use Rattle.am_unseen.specs.Search.{texts_of}
use Rattle.am_unseen.proofs.seen.add_values.Given as goal

-- those that were there, with the values of the alerts so far
abbrev pub invariant-loop-i : goal.invariant-loop-i
invariant-loop-i l =
    texts_of l.values
    ≡ fold with_text (texts_of l.initial.values) (all_values (take l.i l.alerts) l.name)
