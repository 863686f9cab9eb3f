use Rattle.std.proofs.Common.{take}
use Rattle.am_classes.specs.PatternPlaces.{ArePlaced}
use Rattle.am_classes.proofs.label_tests.LabelTests.pattern_places.Given as goal

abbrev pub invariant-loop-matcher : goal.invariant-loop-matcher
invariant-loop-matcher l =
    ArePlaced (take l.matcher-index l.self.matchers.items) l.self.patterns.keys l.places.items
