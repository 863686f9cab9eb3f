use Rattle.std.proofs.Common.{map, string_bytes}
use Rattle.am_complete.proofs.BesideTexts.{AreBeside}
use Rattle.am_complete.proofs.missing_texts.texts_beside.Given as goal

abbrev pub invariant-loop-text : goal.invariant-loop-text
invariant-loop-text l =
    AreBeside (map string_bytes l.fn.others) (map string_bytes l.yielded)
    (map string_bytes l.beside.items)
