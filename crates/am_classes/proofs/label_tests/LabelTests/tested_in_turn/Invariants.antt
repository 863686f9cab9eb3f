use Rattle.std.proofs.Common.{◌≡◌, ◌++◌, List, map, string_bytes, take}
use Rattle.am_labels.specs.Matcher.{Matcher}
use Rattle.am_classes.specs.LabelTests.{IsTestsOf}
use Rattle.am_classes.specs.Truths.{AreHits, finding, naming, texts_of}
use Rattle.am_classes.proofs.label_tests.LabelTests.tested_in_turn.Given as goal

-- the texts are tested by the matchers that name texts, and by those so far
abbrev pub invariant-loop-place : goal.invariant-loop-place
invariant-loop-place l = record {
  texts : texts_of l.all.items ≡ map string_bytes l.fn.texts.items;
  hits : (ms : List Matcher) → IsTestsOf ms l.self
      → AreHits (λ text. naming ms text
      ++ finding (map (λ m. m.now) (take l.place l.self.matchers.items)) text) l.all.items;
}
