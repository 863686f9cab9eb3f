use Rattle.std.proofs.Common.{◌≡◌, map, take, flat_map}
use Rattle.am_classes.specs.Named.{alternatives_of}
use Rattle.am_classes.proofs.named_texts.all_alternatives.Given as goal

abbrev pub invariant-loop-matcher : goal.invariant-loop-matcher
invariant-loop-matcher l =
    map (λ part. part.now) l.parts.items ≡ flat_map alternatives_of (map (λ m. m.now) (take l.matcher-index l.matchers))
