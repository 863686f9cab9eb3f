use Rattle.std.proofs.Common.{length, map}
use denote.Text.{Utf8}
use denote.Shadow.{shadow}
use Rattle.am_questions.specs.LexemeView.{lexeme_view}
use Rattle.am_questions.proofs.LexemeTexts.{ReadsOn}
use Rattle.am_questions.proofs.lexemes.read_lexemes.Given as goal

abbrev pub invariant-loop-rest : goal.invariant-loop-rest
invariant-loop-rest l =
    shadow (Utf8 l.rest) × ReadsOn l.text (map lexeme_view l.lexemes.items) l.rest

abbrev pub decreases-loop-rest : goal.decreases-loop-rest
decreases-loop-rest l = length l.rest
