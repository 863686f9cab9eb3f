-- The simple parts of a tree, from left to right: what they mean, and the first that is refused.
use Rattle.std.proofs.Common.{◌≤◌, ℕ, length, inl, inr, ◌≢◌, Result, Ok, Err, IfErr, List, [], ◌∷◌}
use Rattle.std.proofs.Common.{◌++◌, arith}
use Rattle.std.specs.List.{AllByRecursion}
use Rattle.am_universe.specs.declared.kind.Kind.{Kind}
use Rattle.am_universe.specs.declared.kind.Kind.TheVariants as kinds
use Rattle.am_config.specs.ConfigFile.{Configuration}
use Rattle.am_eval.specs.Tree.{Tree, Part, Not, And, Or}
use Rattle.am_eval.specs.Question.{Question}
use Rattle.am_questions.specs.declared.limits.TheConstants.{MAX_LEXEMES}
use Rattle.am_questions.specs.Lexemes.{Lexeme, SpellsLexemes}
use Rattle.am_questions.specs.Grammar.{Written, IsQuestion}
use Rattle.am_questions.specs.QuestionText.{TreeMeans, IsMeant, parts_of, PartRefusedFor}
use Rattle.am_questions.specs.QuestionText.{PartsRefusedFor, QuestionRefusedFor}

pub all_joined : {X : Type 0} (P : X → Type 0) (xs ys : List X) → AllByRecursion P xs
    → AllByRecursion P ys → AllByRecursion P (xs ++ ys)
all_joined P [] ys hx hy = hy
all_joined P (x ∷ xs) ys hx hy = (hx.0, all_joined P xs ys hx.1 hy)

-- each part of a tree that means a question means something
pub parts_meant : (c : Configuration) (tree : Tree Written) (question : Question)
    → TreeMeans c tree question → AllByRecursion (IsMeant c) (parts_of tree)
parts_meant c (Part written) question h = ((h.0, h.1), tt)
parts_meant c (Not t) question h = parts_meant c t h.0 h.1
parts_meant c (And t u) question h =
    all_joined (IsMeant c) (parts_of t) (parts_of u)
    (parts_meant c t h.0 h.2) (parts_meant c u h.1 h.3)
parts_meant c (Or t u) question h =
    all_joined (IsMeant c) (parts_of t) (parts_of u)
    (parts_meant c t h.0 h.2) (parts_meant c u h.1 h.3)

-- a list of one part is refused for what the part is refused for
pub alone_if_refused : {A : Type 0} (c : Configuration) (written : Written) (result : Result A Kind)
    → IfErr result (λ kind. kind ≢ kinds.Memory → PartRefusedFor c written kind)
    → IfErr result (λ kind. kind ≢ kinds.Memory → PartsRefusedFor c (written ∷ []) kind)
alone_if_refused c written (Ok x) h = tt
alone_if_refused c written (Err kind) h = λ other. inl (h other)

-- a refused part is in the first list
pub left_refused : (c : Configuration) (xs ys : List Written) (kind : Kind)
    → PartsRefusedFor c xs kind → PartsRefusedFor c (xs ++ ys) kind
left_refused c [] ys kind h = absurd h
left_refused c (x ∷ xs) ys kind (inl here) = inl here
left_refused c (x ∷ xs) ys kind (inr h) = inr (h.0, left_refused c xs ys kind h.1)

-- a refused part is in the second list, and each part of the first means something
pub right_refused : (c : Configuration) (xs ys : List Written) (kind : Kind)
    → AllByRecursion (IsMeant c) xs → PartsRefusedFor c ys kind → PartsRefusedFor c (xs ++ ys) kind
right_refused c [] ys kind meant h = h
right_refused c (x ∷ xs) ys kind meant h = inr (meant.0, right_refused c xs ys kind meant.1 h)

-- no part is refused with `Write`
part_unwritten : (c : Configuration) (w : Written) (kind : Kind) → PartRefusedFor c w kind
    → kind ≢ kinds.Write
part_unwritten c w kind refused = grind (arith, refused)

pub parts_unwritten : (c : Configuration) (parts : List Written) (kind : Kind)
    → PartsRefusedFor c parts kind → kind ≢ kinds.Write
parts_unwritten c [] kind refused = absurd refused
parts_unwritten c (w ∷ parts) kind (inl refused) = part_unwritten c w kind refused
parts_unwritten c (w ∷ parts) kind (inr refused) = parts_unwritten c parts kind refused.1

-- a text is refused for what the parts of its tree are refused for
pub text_if_parts_refused : {A : Type 0} (c : Configuration) (text : List ℕ) (lexemes : List Lexeme)
    (tree : Tree Written) (result : Result A Kind) → SpellsLexemes text lexemes
    → length lexemes ≤ MAX_LEXEMES → IsQuestion lexemes tree
    → IfErr result (λ kind. kind ≢ kinds.Memory → PartsRefusedFor c (parts_of tree) kind)
    → IfErr result (λ kind. kind ≢ kinds.Memory → QuestionRefusedFor c text kind)
text_if_parts_refused c text lexemes tree (Ok x) spelled few is_tree h = tt
text_if_parts_refused c text lexemes tree (Err kind) spelled few is_tree h = λ other.
    inr (lexemes, spelled, inr (inr (few, tree, is_tree, h other)))
