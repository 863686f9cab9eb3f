-- Words for examples of the grammar.
use Rattle.am_eval.specs.declared.property.Property.TheVariants.{Any}
use Rattle.am_eval.specs.Tree.{Tree, Part}
use Rattle.am_questions.specs.declared.grammar.Connective.TheVariants as by
use Rattle.am_questions.specs.Lexemes.{Lexeme}
use Rattle.am_questions.specs.Grammar.{Written, WrittenIs, keyword, NotWord, JoinWord, PropertyWord}

-- The words `any`, `not`, `and` and `or`, and the tree of `any`.
abbrev pub any_word : Lexeme
any_word = keyword (PropertyWord Any)

abbrev pub not_word : Lexeme
not_word = keyword NotWord

abbrev pub and_word : Lexeme
and_word = keyword (JoinWord by.And)

abbrev pub or_word : Lexeme
or_word = keyword (JoinWord by.Or)

abbrev pub any_tree : Tree Written
any_tree = Part (WrittenIs Any)
