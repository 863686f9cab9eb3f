-- A tree means at most one question, and so a text is read as at most one.
use Rattle.std.proofs.Common.{◌≡◌, ℕ, List, ap, ap₂, sym, ◌∙◌, subst}
use Rattle.std.proofs.lemmas.Option.{same_Some}
use Rattle.am_labels.proofs.MatcherTextWhole.{one_list}
use Rattle.am_config.specs.ConfigFile.{Configuration}
use Rattle.am_config.proofs.PathTexts.{path_text-injective}
use Rattle.am_eval.specs.Tree.{Tree, Part, Not, And, Or}
use Rattle.am_eval.specs.Question.{Question, Simple, Receiver, Route, Braces}
use Rattle.am_questions.specs.Grammar.{Written, WrittenIs, WrittenReceiver, WrittenRoute}
use Rattle.am_questions.specs.Grammar.{WrittenBraces, IsQuestion}
use Rattle.am_questions.specs.Lexemes.{Lexeme}
use Rattle.am_questions.specs.QuestionText.{Means, TreeMeans, ReadsQuestion}
use Rattle.am_questions.proofs.LexemeTexts.{one_list as one_lexemes}
use Rattle.am_questions.proofs.Fronts.{one_tree}

one_simple : (c : Configuration) (w : Written) (p q : Simple) → Means c w p → Means c w q → p ≡ q
one_simple c (WrittenReceiver name) p q h k =
    h.2 ∙ ap Receiver (same_Some h.0 k.0 (sym h.1 ∙ k.1)) ∙ sym k.2
one_simple c (WrittenRoute reach text) p q h k =
    h.2 ∙ ap (Route reach) (path_text-injective h.0 k.0 (sym h.1.0 ∙ k.1.0)) ∙ sym k.2
one_simple c (WrittenBraces text) p q h k = h.4 ∙ ap Braces (one_list text h.0 k.0 h.1 k.1) ∙ sym k.4
one_simple c (WrittenIs property) p q h k = h ∙ sym k

pub one_meaning : (c : Configuration) (tree : Tree Written) (p q : Question)
    → TreeMeans c tree p → TreeMeans c tree q → p ≡ q
one_meaning c (Part w) p q h k = h.2 ∙ ap Part (one_simple c w h.0 k.0 h.1 k.1) ∙ sym k.2
one_meaning c (Not t) p q h k = h.2 ∙ ap Not (one_meaning c t h.0 k.0 h.1 k.1) ∙ sym k.2
one_meaning c (And t u) p q h k =
    h.4 ∙ ap₂ And (one_meaning c t h.0 k.0 h.2 k.2) (one_meaning c u h.1 k.1 h.3 k.3) ∙ sym k.4
one_meaning c (Or t u) p q h k =
    h.4 ∙ ap₂ Or (one_meaning c t h.0 k.0 h.2 k.2) (one_meaning c u h.1 k.1 h.3 k.3) ∙ sym k.4

-- a text has at most one list of lexemes, which makes at most one tree, which means at most one
-- question
pub one_question : (c : Configuration) (text : List ℕ) (p q : Question)
    → ReadsQuestion c text p → ReadsQuestion c text q → p ≡ q
one_question c text p q h k =
    let lexemes : h.lexemes ≡ k.lexemes = one_lexemes text h.lexemes k.lexemes h.spelled k.spelled in
    let tree : h.tree ≡ k.tree =
    one_tree k.lexemes h.tree k.tree
    (subst (λ (ts : List Lexeme). IsQuestion ts h.tree) lexemes h.is_tree) k.is_tree in
    one_meaning c k.tree p q
    (subst (λ (t : Tree Written). TreeMeans c t p) tree h.meant) k.meant
