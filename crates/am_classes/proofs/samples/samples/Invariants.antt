use Rattle.std.proofs.Common.{◌<◌, IsTrue, length, map, string_bytes}
use Rattle.std.specs.List.{AllByRecursion}
use Rattle.am_classes.specs.Alphabet.{is_over}
use Rattle.am_classes.specs.declared.limits.TheConstants.{MAX_SAMPLE_NUMBERS}
use Rattle.am_classes.proofs.samples.samples.Given as goal

abbrev pub invariant-loop-automaton : goal.invariant-loop-automaton
invariant-loop-automaton l =
    AllByRecursion (λ text. IsTrue (is_over l.alphabet text) × (length text < MAX_SAMPLE_NUMBERS))
    (map string_bytes l.texts.items)

abbrev pub invariant-loop-pattern : goal.invariant-loop-pattern
invariant-loop-pattern l =
    AllByRecursion (λ text. IsTrue (is_over l.alphabet text) × (length text < MAX_SAMPLE_NUMBERS))
    (map string_bytes l.texts.items)
