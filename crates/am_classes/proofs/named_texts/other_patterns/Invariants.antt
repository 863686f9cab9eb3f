use Rattle.std.proofs.Common.{map, take}
use Rattle.am_classes.specs.Named.{AreEachOnce, other_patterns}
use Rattle.am_classes.proofs.named_texts.other_patterns.Given as goal

abbrev pub invariant-loop-matcher : goal.invariant-loop-matcher
invariant-loop-matcher l =
    AreEachOnce (other_patterns (map (λ m. m.now) (take l.matcher-index l.matchers)))
    (map (λ t. t.now) l.patterns.keys)
