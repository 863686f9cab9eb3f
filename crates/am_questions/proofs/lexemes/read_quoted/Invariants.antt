use Rattle.std.proofs.Common.{◌≡◌, ◌≤◌, length}
use denote.Text.{Utf8}
use denote.Shadow.{shadow}
use Rattle.std.specs.String.{string_bytes}
use Rattle.am_questions.specs.Lexemes.{read_quoted}
use Rattle.am_questions.proofs.QuotedTexts.{begun_with_run}
use Rattle.am_questions.proofs.lexemes.read_quoted.Given as goal

abbrev pub invariant-loop-value : goal.invariant-loop-value
invariant-loop-value l =
    shadow (Utf8 l.rest)
    × (read_quoted l.text ≡ begun_with_run (string_bytes l.value) (read_quoted l.rest))
    × (length l.rest ≤ length l.text)

abbrev pub decreases-loop-value : goal.decreases-loop-value
decreases-loop-value l = length l.rest
