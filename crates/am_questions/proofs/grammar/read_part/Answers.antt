use Rattle.std.proofs.Common.{ap}
use Rattle.am_questions.specs.Grammar.{braces}
use Rattle.am_questions.specs.GrammarReading.{part_at_front}
use Rattle.am_questions.specs.LexemeView.{lexeme_view}
use Rattle.am_questions.proofs.grammar.read_part.Goals as goal

pub returns-in-Braces-clause-taken : goal.returns-in-Braces-clause-taken
returns-in-Braces-clause-taken c =
    rw (c.in_ok-first.ensures.cases.0, ap lexeme_view c.in-Braces.is) (part_at_front (braces _))
