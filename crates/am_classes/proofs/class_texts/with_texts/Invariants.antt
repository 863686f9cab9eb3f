use Rattle.std.proofs.Common.{◌≡◌, ◌++◌, map, string_bytes, take}
use Rattle.am_classes.proofs.class_texts.with_texts.Given as goal

abbrev pub invariant-loop-candidate : goal.invariant-loop-candidate
invariant-loop-candidate l =
    map string_bytes l.texts.items
    ≡ map string_bytes l.initial.texts.items
    ++ map (λ c. string_bytes c.text) (take l.candidate-index l.candidates)
