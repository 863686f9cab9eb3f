use Rattle.std.proofs.Common.{◌++◌, List, map, string_bytes}
use Rattle.am_labels.specs.Matcher.{Matcher}
use Rattle.am_classes.specs.Truths.{AreTested, AreNewIn, texts_of}
use Rattle.am_classes.proofs.TestedTexts.{AreSeen}
use Rattle.am_classes.proofs.tested.new_texts.Given as goal

-- the hits that were seen are those of the texts that are there and the new ones so far
abbrev pub invariant-loop-text : goal.invariant-loop-text
invariant-loop-text l =
    let there = texts_of l.fn.there.items in
    let texts = map string_bytes l.texts.items in
    (ms : List Matcher) → AreTested ms l.fn.there.items → AreTested ms l.yielded
    → AreSeen ms l.seen (there ++ texts) × AreNewIn ms there (texts_of l.yielded) texts
