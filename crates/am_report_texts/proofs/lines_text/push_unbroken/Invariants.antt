use Rattle.std.proofs.Common.{◌≡◌, ◌++◌, string_bytes}
use Rattle.am_report_texts.specs.Line.{unbroken}
use Rattle.am_report_texts.proofs.lines_text.push_unbroken.Given as goal

-- What is written, followed by what is left to write, is the whole text.
abbrev pub invariant-loop-character : goal.invariant-loop-character
invariant-loop-character l =
    string_bytes l.text ++ unbroken l.character-iterator.rest.now
    ≡ string_bytes l.initial.text ++ unbroken l.words
