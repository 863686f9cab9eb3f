use Rattle.std.proofs.Common.{◌≡◌, map, take, flat_map}
use Rattle.am_classes.specs.Named.{text_of}
use Rattle.am_classes.proofs.named_texts.compared_texts.Given as goal

abbrev pub invariant-loop-matcher : goal.invariant-loop-matcher
invariant-loop-matcher l =
    map (λ text. text.now) l.texts.items ≡ flat_map text_of (map (λ m. m.now) (take l.matcher-index l.matchers))
