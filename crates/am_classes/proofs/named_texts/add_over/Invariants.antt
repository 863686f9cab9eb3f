use Rattle.std.proofs.Common.{List, ℕ, ◌++◌, map, take, filter}
use Rattle.am_classes.specs.Alphabet.{is_over}
use Rattle.am_classes.specs.Named.{AreEachOnce}
use Rattle.am_classes.proofs.named_texts.add_over.Given as goal

abbrev pub invariant-loop-text : goal.invariant-loop-text
invariant-loop-text l = (wanted : List (List ℕ))
    → AreEachOnce wanted (map (λ t. t.now) l.initial.texts.keys)
    → AreEachOnce (wanted ++ filter (is_over l.alphabet) (map (λ t. t.now) (take l.text-index l.named)))
    (map (λ t. t.now) l.texts.keys)
