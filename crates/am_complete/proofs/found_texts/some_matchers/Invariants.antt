use Rattle.std.proofs.Common.{map}
use Rattle.am_complete.specs.Complete.{AreAmong}
use Rattle.am_complete.proofs.found_texts.some_matchers.Given as goal

abbrev pub invariant-loop-matcher : goal.invariant-loop-matcher
invariant-loop-matcher l = AreAmong (map (λ m. m.now) l.some.items) (map (λ m. m.now) l.matchers)
