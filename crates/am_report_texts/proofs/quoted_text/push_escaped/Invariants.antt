use Rattle.std.proofs.Common.{◌≡◌, ◌++◌, string_bytes}
use Rattle.std.specs.List.{flat_map}
use Rattle.am_universe.specs.Text.{label_value_escape}
use Rattle.am_report_texts.proofs.quoted_text.push_escaped.Given as goal

-- What is written, followed by what is left to write, is the whole text.
abbrev pub invariant-loop-character : goal.invariant-loop-character
invariant-loop-character l =
    string_bytes l.text ++ flat_map label_value_escape l.character-iterator.rest.now
    ≡ string_bytes l.initial.text ++ flat_map label_value_escape l.quoted
