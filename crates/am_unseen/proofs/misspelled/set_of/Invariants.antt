use Rattle.std.proofs.Common.{◌≡◌, map, take}
use Rattle.am_report_texts.specs.EachOnce.{each_once}
use Rattle.am_unseen.specs.Search.{texts_of}
use Rattle.am_unseen.proofs.misspelled.set_of.Given as goal

abbrev pub invariant-loop-text : goal.invariant-loop-text
invariant-loop-text l =
    texts_of l.set ≡ each_once (map (λ t. t.now) (take l.text-index l.texts))
