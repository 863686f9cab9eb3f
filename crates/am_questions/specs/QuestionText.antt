-- Question texts: which text is which question about a configuration, and why a text is refused.
-- (This project's own.)
use Rattle.std.specs.Prelude.{◌≡◌, ◌≤◌, ◌<◌, ◌⊎◌, ℕ, List, [], ◌∷◌, ◌++◌, length, Option, Some}
use Rattle.std.specs.Prelude.{None, IsTrue, is_some}
use Rattle.am_universe.specs.declared.kind.Kind.{Kind}
use Rattle.am_universe.specs.declared.kind.Kind.TheVariants as kinds
use Rattle.am_labels.specs.declared.limits.TheConstants.{MAX_MATCHERS}
use Rattle.am_labels.specs.Matcher.{Matcher}
use Rattle.am_labels.specs.MatcherText.{Spells}
use Rattle.am_labels.specs.MatcherRefusals.{have_valid_patterns, TextRefusedFor}
use Rattle.am_config.specs.ConfigFile.{Configuration, receiver_position}
use Rattle.am_config.specs.Path.{path_text, route_at}
use Rattle.am_questions.specs.declared.limits.TheConstants.{MAX_LEXEMES}
use Rattle.am_eval.specs.Tree.{Tree, Part, Not, And, Or}
use Rattle.am_eval.specs.Question.{Question, Simple, Is, Receiver, Route, Braces}
use Rattle.am_questions.specs.Lexemes.{Lexeme, SpellsLexemes}
use Rattle.am_questions.specs.Grammar.{Written, WrittenIs, WrittenReceiver, WrittenRoute}
use Rattle.am_questions.specs.Grammar.{WrittenBraces, IsQuestion}

-- ---- What is meant.

-- The text is that of this path, and a route is at the path.
abbrev pub IsPathOfRoute : Configuration → List ℕ → List ℕ → Type 0
IsPathOfRoute c text path = (text ≡ path_text path) × IsTrue (is_some (route_at c.root path))

-- A simple part as it is written means this simple part, under the configuration.
abbrev pub Means : Configuration → Written → Simple → Type 0
Means c (WrittenIs property) simple = simple ≡ Is property
Means c (WrittenReceiver name) simple =
    (receiver : ℕ) × (receiver_position c name ≡ Some receiver) × (simple ≡ Receiver receiver)
Means c (WrittenRoute reach text) simple =
    (path : List ℕ) × IsPathOfRoute c text path × (simple ≡ Route reach path)
Means c (WrittenBraces text) simple =
    (matchers : List Matcher) × Spells text matchers × (length matchers ≤ MAX_MATCHERS)
    × IsTrue (have_valid_patterns matchers) × (simple ≡ Braces matchers)

-- A tree means the question of the same form, whose simple parts are what the tree's parts mean.
abbrev pub TreeMeans : Configuration → Tree Written → Question → Type 0
TreeMeans c (Part written) question =
    (simple : Simple) × Means c written simple × (question ≡ Part simple)
TreeMeans c (Not t) question = (q : Question) × TreeMeans c t q × (question ≡ Not q)
TreeMeans c (And t u) question =
    (q : Question) × (r : Question) × TreeMeans c t q × TreeMeans c u r × (question ≡ And q r)
TreeMeans c (Or t u) question =
    (q : Question) × (r : Question) × TreeMeans c t q × TreeMeans c u r × (question ≡ Or q r)

-- The text is read as the question: its lexemes, which are not too many, make a tree that means the
-- question.
-- Source: own choice.
-- Example: if `ops` is the second receiver, `not receiver ops` is the question whether none of an
-- alert's receivers is the one at position 1.
pub record ReadsQuestion (c : Configuration) (text : List ℕ) (question : Question) : Type 0 where
  pub lexemes : List Lexeme
  pub spelled : SpellsLexemes text lexemes
  pub within_limit : length lexemes ≤ MAX_LEXEMES
  pub tree : Tree Written
  pub is_tree : IsQuestion lexemes tree
  pub meant : TreeMeans c tree question

-- ---- Why a text is refused.

-- The simple parts of a tree, from left to right.
abbrev pub parts_of : {P : Type 0} → Tree P → List P
parts_of (Part p) = p ∷ []
parts_of (Not t) = parts_of t
parts_of (And t u) = parts_of t ++ parts_of u
parts_of (Or t u) = parts_of t ++ parts_of u

-- Why a simple part is refused: no receiver with the name is declared, no route is at the path, or
-- the text of the matcher list is refused.
abbrev pub PartRefusedFor : Configuration → Written → Kind → Type 0
PartRefusedFor c (WrittenIs property) kind = ⊥
PartRefusedFor c (WrittenReceiver name) kind =
    (kind ≡ kinds.UnknownReceiver) × (receiver_position c name ≡ None)
PartRefusedFor c (WrittenRoute reach text) kind =
    (kind ≡ kinds.UnknownRoute) × ((path : List ℕ) → IsPathOfRoute c text path → ⊥)
PartRefusedFor c (WrittenBraces text) kind = TextRefusedFor text kind

-- A simple part means something.
abbrev pub IsMeant : Configuration → Written → Type 0
IsMeant c written = (simple : Simple) × Means c written simple

-- Why a list of parts is refused: one of them is refused, and each part before it means something.
abbrev pub PartsRefusedFor : Configuration → List Written → Kind → Type 0
PartsRefusedFor c [] kind = ⊥
PartsRefusedFor c (part ∷ parts) kind =
    PartRefusedFor c part kind ⊎ (IsMeant c part × PartsRefusedFor c parts kind)

-- Why lexemes are refused: there are too many; or else they make no tree; or else a simple part is
-- refused.
abbrev pub LexemesRefusedFor : Configuration → List Lexeme → Kind → Type 0
LexemesRefusedFor c lexemes kind =
    ((kind ≡ kinds.Limit) × (MAX_LEXEMES < length lexemes))
    ⊎ ((kind ≡ kinds.QuestionSyntax) × (length lexemes ≤ MAX_LEXEMES)
    × ((tree : Tree Written) → IsQuestion lexemes tree → ⊥))
    ⊎ ((length lexemes ≤ MAX_LEXEMES) × (tree : Tree Written) × IsQuestion lexemes tree
    × PartsRefusedFor c (parts_of tree) kind)

-- Why a text is refused: it is not made of lexemes; or else its lexemes are refused.
-- Source: own choice.
-- Example: `receiver nobody and ends` is refused as `question-syntax`, whatever receivers there
-- are. `receiver nobody and ends /9` is refused as `unknown-receiver` if there is no receiver
-- `nobody`.
abbrev pub QuestionRefusedFor : Configuration → List ℕ → Kind → Type 0
QuestionRefusedFor c text kind =
    ((kind ≡ kinds.QuestionSyntax)
    × ((lexemes : List Lexeme) → SpellsLexemes text lexemes → ⊥))
    ⊎ ((lexemes : List Lexeme) × SpellsLexemes text lexemes × LexemesRefusedFor c lexemes kind)
