-- What a list of lexemes begins with, and which lexemes follow it.
use Rattle.std.specs.Prelude.{◌≡◌, ◌≢◌, List, ◌∷◌, ◌++◌, ⊤}
use Rattle.am_universe.specs.declared.kind.Kind.{Kind}
use Rattle.am_universe.specs.declared.kind.Kind.TheVariants as kinds
use Rattle.am_eval.specs.Tree.{Tree}
use Rattle.am_questions.specs.declared.grammar.Connective.TheVariants as by
use Rattle.am_questions.specs.Lexemes.{Lexeme}
use Rattle.am_questions.specs.Grammar.{Written, IsPart, JoinWord, Keyword, keyword}
use Rattle.am_questions.specs.Grammar.{Tier, JoinedBy, Single, IsOf}

-- The first lexeme is not this keyword.
abbrev pub IsNotFirst : Keyword → List Lexeme → Type 0
IsNotFirst k lexemes = (rest : List Lexeme) → lexemes ≢ keyword k ∷ rest

-- What may follow a question of a tier: nothing that would continue the question.
abbrev pub Stops : Tier → List Lexeme → Type 0
Stops Single rest = ⊤
Stops (JoinedBy by.And) rest = IsNotFirst (JoinWord by.And) rest
Stops (JoinedBy by.Or) rest = IsNotFirst (JoinWord by.Or) rest × IsNotFirst (JoinWord by.And) rest

-- The list begins with a question of the tier `tier`, and the rest of the list may follow a
-- question of the tier `end`. `Reads` takes one tier for both.
pub data Front (tier end : Tier) : List Lexeme → Tree Written → List Lexeme → Type 0 where
  at_front : {front rest : List Lexeme} {q : Tree Written} → IsOf tier front q → Stops end rest
      → Front tier end (front ++ rest) q rest

abbrev pub Reads : Tier → List Lexeme → Tree Written → List Lexeme → Type 0
Reads tier = Front tier tier

-- The list begins with a simple part. Anything may follow it.
pub data ReadsPart : List Lexeme → Written → List Lexeme → Type 0 where
  part_at_front : {front rest : List Lexeme} {w : Written} → IsPart front w
      → ReadsPart (front ++ rest) w rest

-- Why nothing is read: memory ran out, or the list begins with nothing of the kind.
abbrev pub Refuses : Kind → (Tree Written → List Lexeme → Type 0) → Type 0
Refuses kind reads = kind ≢ kinds.Memory
    → (kind ≡ kinds.QuestionSyntax) × ((q : Tree Written) (rest : List Lexeme) → reads q rest → ⊥)
