-- The first fault of a question is that of its text, of its lexemes, or of a simple part.
use Rattle.std.proofs.Common.{◌≤◌, List, length, map, arith, subst}
use Rattle.std.proofs.lemmas.List.{length-map}
use Rattle.am_config.specs.ConfigView.{config_view}
use Rattle.am_questions.specs.declared.limits.TheConstants.{MAX_LEXEMES}
use Rattle.am_questions.specs.declared.lexemes.Lexeme as kept
use Rattle.am_questions.specs.LexemeView.{lexeme_view}
use Rattle.am_questions.specs.TreeView.{tree_view}
use Rattle.am_questions.specs.Grammar.{IsQuestion}
use Rattle.am_questions.proofs.PartLemmas.{text_if_parts_refused}
use Rattle.am_questions.proofs.names.parse_question.Goals as goal

pub returns-clause-refused : goal.returns-clause-refused
returns-clause-refused c =
    let items = c.in_ok-lexemes.lexemes.items in
    let tree = tree_view c.in_ok-tree.tree in
    let few : length (map lexeme_view items) ≤ MAX_LEXEMES =
    omega (arith, length-map items lexeme_view, c.if-len-gt-MAX_LEXEMES.false, c.len.ensures) in
    let is_tree : IsQuestion (map lexeme_view items) tree =
    subst (λ (ts : List kept.Lexeme). IsQuestion (map lexeme_view ts) tree)
    c.as_slice.ensures.value c.in_ok-tree.ensures.read in
    text_if_parts_refused (config_view c.args.config.now) c.args.text.now
    (map lexeme_view items) tree c.question_of.result c.in_ok-lexemes.ensures.read few is_tree
    c.question_of.ensures.refused
