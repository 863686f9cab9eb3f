use Rattle.std.proofs.Common.{◌≡◌, map, fold}
use Rattle.am_universe.specs.LabelSetView.{entry_texts}
use Rattle.am_report_texts.specs.EachOnce.{with_text}
use Rattle.am_unseen.specs.Search.{texts_of}
use Rattle.am_unseen.proofs.seen.add_names.Given as goal

-- the names so far, with those that are left, are the names with all of them
abbrev pub invariant-loop-name : goal.invariant-loop-name
invariant-loop-name l =
    fold with_text (texts_of l.names) (map (λ e. e.0) (entry_texts l.name-iterator))
    ≡ fold with_text (texts_of l.initial.names)
    (map (λ e. e.0) (entry_texts l.initial.name-iterator))
