use Rattle.std.proofs.Common.{◌≡◌, map, string_bytes}
use Rattle.am_classes.specs.LabelTests.{named_places}
use Rattle.am_classes.specs.Truths.{AreHits, texts_of}
use Rattle.am_classes.proofs.label_tests.LabelTests.named_tested.Given as goal

abbrev pub invariant-loop-text : goal.invariant-loop-text
invariant-loop-text l = record {
  texts : texts_of l.all.items ≡ map string_bytes l.yielded;
  hits : AreHits (named_places l.self.named) l.all.items;
}
