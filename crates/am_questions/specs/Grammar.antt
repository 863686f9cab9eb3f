-- The grammar of questions: which lexemes make which tree. (This project's own.)
use Rattle.std.specs.Prelude.{◌≡◌, ◌⊎◌, ℕ, List, [], ◌∷◌, ◌++◌, Option, Some, None, ⊤, codes}
use Rattle.std.specs.List.{AllByRecursion}
use Rattle.am_config.specs.Path.{path_text}
use Rattle.am_eval.specs.declared.property.Property.{Property}
use Rattle.am_eval.specs.declared.property.Property.TheVariants.{Any, Silenced, Inhibited}
use Rattle.am_eval.specs.declared.reach.Reach.{Reach}
use Rattle.am_eval.specs.declared.reach.Reach.TheVariants.{Ends, Enters}
use Rattle.am_eval.specs.Tree.{Tree, Part, Not, And, Or}
use Rattle.am_questions.specs.declared.grammar.Connective.{Connective}
use Rattle.am_questions.specs.declared.grammar.Connective.TheVariants as by
use Rattle.am_questions.specs.Lexemes.{Lexeme, Open, Close, Word, Quoted, BraceList}

-- A simple part as it is written: a property, a receiver by its name, a route by the text of its
-- path, or a list of matchers by its text.
pub data Written : Type 0 where
  WrittenIs : Property → Written
  WrittenReceiver : List ℕ → Written
  WrittenRoute : Reach → List ℕ → Written
  WrittenBraces : List ℕ → Written

-- The keywords, and the word of each, also as a lexeme. A name may be one of these words too.
pub data Keyword : Type 0 where
  NotWord : Keyword
  JoinWord : Connective → Keyword
  PropertyWord : Property → Keyword
  ReceiverWord : Keyword
  ReachWord : Reach → Keyword

abbrev pub word_of : Keyword → List ℕ
word_of NotWord = codes "not"
word_of (JoinWord by.And) = codes "and"
word_of (JoinWord by.Or) = codes "or"
word_of (PropertyWord Any) = codes "any"
word_of (PropertyWord Silenced) = codes "silenced"
word_of (PropertyWord Inhibited) = codes "inhibited"
word_of ReceiverWord = codes "receiver"
word_of (ReachWord Ends) = codes "ends"
word_of (ReachWord Enters) = codes "enters"

abbrev pub keyword : Keyword → Lexeme
keyword k = Word (word_of k)

-- NAME: any word, even a keyword, or a text in quotes.
abbrev pub name_of : Lexeme → Option (List ℕ)
name_of (Word name) = Some name
name_of (Quoted name) = Some name
name_of _ = None

-- part := PROPERTY | "receiver" NAME | REACH PATH | BRACES
pub data IsPart : List Lexeme → Written → Type 0 where
  property : (p : Property) → IsPart (keyword (PropertyWord p) ∷ []) (WrittenIs p)
  receiver : (lexeme : Lexeme) (name : List ℕ) → name_of lexeme ≡ Some name
      → IsPart (keyword ReceiverWord ∷ lexeme ∷ []) (WrittenReceiver name)
  route : (reach : Reach) (path : List ℕ)
      → IsPart (keyword (ReachWord reach) ∷ Word (path_text path) ∷ [])
      (WrittenRoute reach (path_text path))
  braces : (list : List ℕ) → IsPart (BraceList list ∷ []) (WrittenBraces list)

-- A tier of the grammar: questions that a connective joins, or one question that none joins.
pub data Tier : Type 0 where
  JoinedBy : Connective → Tier
  Single : Tier

-- The tier of what a connective joins: `and` binds more tightly than `or`. And the tree of two
-- questions that a connective joins.
abbrev pub operand : Connective → Tier
operand by.And = Single
operand by.Or = JoinedBy by.And

abbrev pub joined : Connective → Tree Written → Tree Written → Tree Written
joined by.And = And
joined by.Or = Or

-- In the grammar, both connectives join to the left. `or` binds least tightly, then `and`, then
-- `not`.
-- Source: own choice.
-- Example: `any or not any and any` has the tree of `any or ((not any) and any)`.
pub data IsOf : Tier → List Lexeme → Tree Written → Type 0 where
  -- question := conjunction { "or" conjunction }, conjunction := single { "and" single }
  alone : {c : Connective} {ts : List Lexeme} {q : Tree Written} → IsOf (operand c) ts q
      → IsOf (JoinedBy c) ts q
  joined_on : {c : Connective} {ts us : List Lexeme} {q r : Tree Written} → IsOf (JoinedBy c) ts q
      → IsOf (operand c) us r → IsOf (JoinedBy c) (ts ++ (keyword (JoinWord c) ∷ us)) (joined c q r)
  -- single := "not" single | "(" question ")" | part
  negated : {ts : List Lexeme} {q : Tree Written} → IsOf Single ts q
      → IsOf Single (keyword NotWord ∷ ts) (Not q)
  in_parentheses : {ts : List Lexeme} {q : Tree Written} → IsOf (JoinedBy by.Or) ts q
      → IsOf Single (Open ∷ (ts ++ (Close ∷ []))) q
  part : {ts : List Lexeme} {w : Written} → IsPart ts w → IsOf Single ts (Part w)

abbrev pub IsQuestion : List Lexeme → Tree Written → Type 0
IsQuestion = IsOf (JoinedBy by.Or)

-- A word or a parenthesis that joins the parts of a question.
abbrev pub IsJoint : Lexeme → Type 0
IsJoint Open = ⊤
IsJoint Close = ⊤
IsJoint (Word word) =
    (word ≡ word_of NotWord) ⊎ ((c : Connective) × (word ≡ word_of (JoinWord c)))
IsJoint (Quoted name) = ⊥
IsJoint (BraceList list) = ⊥

-- The lexemes are those of these simple parts, in this order, and the words and parentheses that
-- join them.
-- Source: own choice.
-- Example: `not (receiver ops or any)` has the lexemes of `receiver ops` and then those of `any`.
pub data StandInOrder : List Written → List Lexeme → Type 0 where
  no_part : (joints : List Lexeme) → AllByRecursion IsJoint joints → StandInOrder [] joints
  part_before : (joints lexemes after : List Lexeme) (part : Written) (parts : List Written)
      → AllByRecursion IsJoint joints → IsPart lexemes part → StandInOrder parts after
      → StandInOrder (part ∷ parts) (joints ++ (lexemes ++ after))
