-- The lexemes of the code, as the definitions have them.
use Rattle.std.specs.Prelude.{string_bytes}
use Rattle.am_questions.specs.declared.lexemes.Lexeme as code
use Rattle.am_questions.specs.declared.lexemes.Lexeme.TheVariants as code_of
use Rattle.am_questions.specs.Lexemes.{Lexeme, Open, Close, Word, Quoted, BraceList}

-- A lexeme, without the addresses of its text in memory.
abbrev pub lexeme_view : code.Lexeme → Lexeme
lexeme_view code_of.Open = Open
lexeme_view code_of.Close = Close
lexeme_view (code_of.Word word) = Word word.now
lexeme_view (code_of.Quoted value) = Quoted (string_bytes value)
lexeme_view (code_of.Braces list) = BraceList list.now
