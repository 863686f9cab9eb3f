use Rattle.std.proofs.Common.{◌-◌, ◌+◌, length, string_bytes}
use Rattle.am_classes.specs.Alphabet.{IsOrdinary}
use Rattle.am_classes.specs.ClassTexts.{IsOther}
use Rattle.am_classes.specs.State.{IsNamed, named_texts}
use Rattle.am_classes.proofs.AskedLemmas.{length_of_all}
use Rattle.am_classes.proofs.candidates.other_text.Given as goal

abbrev pub invariant-loop-text : goal.invariant-loop-text
invariant-loop-text l = record {
  ordinary : IsOrdinary (string_bytes l.text);
  other : IsOther (IsNamed l.questions) (string_bytes l.text);
}

-- a named text is no longer than all named texts together
abbrev pub decreases-loop-text : goal.decreases-loop-text
decreases-loop-text l = length_of_all (named_texts l.questions) + 1 - length (string_bytes l.text)
