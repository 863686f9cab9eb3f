-- A text that is read as a question is not refused, and a text is refused with at most one kind.
-- The exceptions are patterns that the engine may refuse.
use Rattle.std.proofs.Common.{◌≡◌, ◌≢◌, ◌≤◌, ℕ, List, [], ◌∷◌, length, None, Some, sym, subst}
use Rattle.std.proofs.Common.{◌∙◌, inl, inr, arith}
use Rattle.std.specs.List.{AllByRecursion}
use Rattle.std.proofs.lemmas.Grind.{common_steps}
use Rattle.am_universe.specs.declared.kind.Kind.{Kind}
use Rattle.am_universe.specs.declared.kind.Kind.TheVariants as kinds
use Rattle.am_config.specs.ConfigFile.{Configuration}
use Rattle.am_eval.specs.Tree.{Tree}
use Rattle.am_eval.specs.Question.{Question}
use Rattle.am_files.proofs.SetRefusals.{words_accepted, words_kind}
use Rattle.am_questions.specs.declared.limits.TheConstants.{MAX_LEXEMES}
use Rattle.am_questions.specs.Lexemes.{Lexeme}
use Rattle.am_questions.specs.Grammar.{Written, WrittenIs, WrittenReceiver, WrittenRoute}
use Rattle.am_questions.specs.Grammar.{WrittenBraces, IsQuestion}
use Rattle.am_questions.specs.QuestionText.{TreeMeans, ReadsQuestion}
use Rattle.am_questions.specs.QuestionText.{PartRefusedFor, IsMeant, PartsRefusedFor}
use Rattle.am_questions.specs.QuestionText.{LexemesRefusedFor, QuestionRefusedFor}
use Rattle.am_questions.proofs.LexemeTexts.{one_list}
use Rattle.am_questions.proofs.Fronts.{one_tree}
use Rattle.am_questions.proofs.PartLemmas.{parts_meant}

-- ---- Parts.

-- a part that means something is refused only for a pattern
part_meant : (c : Configuration) (w : Written) (kind : Kind) → IsMeant c w → PartRefusedFor c w kind
    → kind ≡ kinds.Pattern
part_meant c (WrittenReceiver name) kind meant refused =
    let there = meant.1.1 in
    let both : Some meant.1.0 ≡ None = sym there ∙ refused.1 in absurd (cc)
part_meant c (WrittenRoute reach text) kind meant refused =
    absurd (refused.1 meant.1.0 meant.1.1)
part_meant c (WrittenBraces text) kind meant refused =
    words_accepted (text ∷ []) meant.1.0 kind meant.1.1 meant.1.2 meant.1.3 refused
part_meant c (WrittenIs property) kind meant refused = absurd refused

part_kind : (c : Configuration) (w : Written) (kind other : Kind) → PartRefusedFor c w kind
    → PartRefusedFor c w other → kind ≢ kinds.Pattern → other ≢ kinds.Pattern → kind ≡ other
part_kind c (WrittenReceiver name) kind other refused again h k = refused.0 ∙ sym again.0
part_kind c (WrittenRoute reach text) kind other refused again h k = refused.0 ∙ sym again.0
part_kind c (WrittenBraces text) kind other refused again h k =
    words_kind (text ∷ []) kind other refused again h k
part_kind c (WrittenIs property) kind other refused again h k = absurd refused

parts_accepted : (c : Configuration) (parts : List Written) (kind : Kind)
    → AllByRecursion (IsMeant c) parts → PartsRefusedFor c parts kind → kind ≡ kinds.Pattern
parts_accepted c [] kind meant refused = absurd refused
parts_accepted c (w ∷ parts) kind meant (inl refused) = part_meant c w kind meant.0 refused
parts_accepted c (w ∷ parts) kind meant (inr refused) =
    parts_accepted c parts kind meant.1 refused.1

parts_kind : (c : Configuration) (parts : List Written) (kind other : Kind)
    → PartsRefusedFor c parts kind → PartsRefusedFor c parts other → kind ≢ kinds.Pattern
    → other ≢ kinds.Pattern → kind ≡ other
parts_kind c [] kind other refused again h k = absurd refused
parts_kind c (w ∷ parts) kind other (inl refused) (inl again) h k =
    part_kind c w kind other refused again h k
parts_kind c (w ∷ parts) kind other (inl refused) (inr again) h k =
    absurd (h (part_meant c w kind again.0 refused))
parts_kind c (w ∷ parts) kind other (inr refused) (inl again) h k =
    absurd (k (part_meant c w other refused.0 again))
parts_kind c (w ∷ parts) kind other (inr refused) (inr again) h k =
    parts_kind c parts kind other refused.1 again.1 h k

-- ---- Lexemes, and texts.

lexemes_accepted : (c : Configuration) (lexemes : List Lexeme) (tree : Tree Written) (q : Question)
    (kind : Kind) → length lexemes ≤ MAX_LEXEMES → IsQuestion lexemes tree → TreeMeans c tree q
    → LexemesRefusedFor c lexemes kind → kind ≡ kinds.Pattern
lexemes_accepted c lexemes tree q kind few is_tree meant x8 =
    grind (arith, common_steps, parts_accepted, parts_meant, one_tree)

-- a text that is read is refused only for a pattern
pub question_accepted : (c : Configuration) (text : List ℕ) (q : Question) (kind : Kind)
    → ReadsQuestion c text q → QuestionRefusedFor c text kind → kind ≡ kinds.Pattern
question_accepted c text q kind read (inl none) = absurd (none.1 read.lexemes read.spelled)
question_accepted c text q kind read (inr refused) =
    lexemes_accepted c read.lexemes read.tree q kind read.within_limit read.is_tree read.meant
    (subst (λ (ts : List Lexeme). LexemesRefusedFor c ts kind)
    (one_list text refused.0 read.lexemes refused.1 read.spelled) refused.2)

lexemes_kind : (c : Configuration) (lexemes : List Lexeme) (kind other : Kind)
    → LexemesRefusedFor c lexemes kind → LexemesRefusedFor c lexemes other → kind ≢ kinds.Pattern
    → other ≢ kinds.Pattern → kind ≡ other
lexemes_kind c lexemes kind other x4 x5 h k = grind (arith, common_steps, parts_kind, one_tree)

-- a text is refused with at most one kind
pub question_kind : (c : Configuration) (text : List ℕ) (kind other : Kind)
    → QuestionRefusedFor c text kind → QuestionRefusedFor c text other → kind ≢ kinds.Pattern
    → other ≢ kinds.Pattern → kind ≡ other
question_kind c text kind other (inl none) (inl nothing) h k = none.0 ∙ sym nothing.0
question_kind c text kind other (inl none) (inr refused) h k = absurd (none.1 refused.0 refused.1)
question_kind c text kind other (inr refused) (inl none) h k = absurd (none.1 refused.0 refused.1)
question_kind c text kind other (inr refused) (inr again) h k =
    lexemes_kind c again.0 kind other
    (subst (λ (ts : List Lexeme). LexemesRefusedFor c ts kind)
    (one_list text refused.0 again.0 refused.1 again.1) refused.2)
    again.2 h k
