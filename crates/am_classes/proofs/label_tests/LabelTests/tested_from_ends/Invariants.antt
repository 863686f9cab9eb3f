use Rattle.std.proofs.Common.{◌≡◌, List, map, string_bytes}
use Rattle.std.specs.List.{AllByRecursion}
use Rattle.am_labels.specs.Matcher.{Matcher}
use Rattle.am_classes.specs.Automata.{AreScanned}
use Rattle.am_classes.specs.LabelTests.{IsTestsOf}
use Rattle.am_classes.specs.Truths.{AreTested, texts_of}
use Rattle.am_classes.proofs.label_tests.LabelTests.tested_from_ends.Given as goal

abbrev pub invariant-loop-text : goal.invariant-loop-text
invariant-loop-text l = record {
  texts : texts_of l.all.items ≡ map string_bytes l.yielded;
  tested : (ms : List Matcher) → IsTestsOf ms l.self
      → AllByRecursion (λ text. AreScanned l.ends.automata.now (string_bytes text)) l.yielded
      → AreTested ms l.all.items;
}
