use Rattle.std.proofs.Common.{◌≡◌, map, string_bytes, take}
use Rattle.am_report_texts.proofs.shown.texts_of.Given as goal

abbrev pub invariant-loop-text : goal.invariant-loop-text
invariant-loop-text l =
    map (λ t. t.now) l.found.items ≡ map string_bytes (take l.text-index l.texts)
