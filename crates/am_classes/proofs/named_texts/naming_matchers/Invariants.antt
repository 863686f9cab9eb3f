use Rattle.std.proofs.Common.{◌≡◌, map, take}
use Rattle.std.specs.List.{filter}
use Rattle.am_classes.specs.Named.{names_texts}
use Rattle.am_classes.proofs.named_texts.naming_matchers.Given as goal

abbrev pub invariant-loop-matcher : goal.invariant-loop-matcher
invariant-loop-matcher l =
    map (λ m. m.now) l.naming.items ≡ filter names_texts (map (λ m. m.now) (take l.matcher-index l.matchers))
