-- Words that are read, as a list of matchers or as a label set, are not refused, and words are
-- refused with at most one kind. The exceptions are patterns that the engine may refuse.
use Rattle.std.proofs.Common.{◌≡◌, ◌≢◌, ◌≤◌, ℕ, List, length, Bool, true, false}
use Rattle.std.proofs.Common.{sym, subst, ◌∙◌, inl, inr, arith}
use Rattle.std.specs.Prelude.{IsTrue, if◌then◌else◌}
use Rattle.std.proofs.lemmas.Grind.{common_steps}
use Rattle.am_universe.specs.declared.kind.Kind.{Kind}
use Rattle.am_universe.specs.declared.kind.Kind.TheVariants as kinds
use Rattle.am_universe.specs.LabelSet.{LabelMap}
use Rattle.am_labels.specs.declared.limits.TheConstants.{MAX_MATCHERS}
use Rattle.am_labels.specs.PatternProfile.{in_profile}
use Rattle.am_labels.specs.Matcher.{Matcher}
use Rattle.am_labels.specs.MatcherText.{WordsSpell}
use Rattle.am_labels.specs.MatcherRefusals.{have_valid_patterns}
use Rattle.am_labels.specs.MatcherRefusals.{PatternsRefusedFor}
use Rattle.am_labels.specs.MatcherRefusals.{ListRefusedFor, WordsRefusedFor}
use Rattle.am_labels.specs.ParsedLabelSet.{WordsSpellSet, SetWordsRefusedFor}
use Rattle.am_labels.proofs.MatcherTextWhole.{one_list_of_words}

-- ---- Patterns.

-- a refused pattern is refused as `pattern` or as `pattern-profile`
refusal_is : (inside : Bool) (kind : Kind)
    → kind ≡ (if inside then kinds.Pattern else kinds.PatternProfile) → kind ≢ kinds.Pattern
    → kind ≡ kinds.PatternProfile
refusal_is true kind e other = absurd (other e)
refusal_is false kind e other = e

profile_kind : (ms : List Matcher) (kind : Kind) → PatternsRefusedFor ms kind
    → kind ≢ kinds.Pattern → kind ≡ kinds.PatternProfile
profile_kind ms kind refused other =
    refusal_is (in_profile refused.refused.value) kind refused.value.kind_is other

-- ---- Lists, and their words.

-- words that are read are refused only for a pattern
pub words_accepted : (words : List (List ℕ)) (ms : List Matcher) (kind : Kind) → WordsSpell words ms
    → length ms ≤ MAX_MATCHERS → IsTrue (have_valid_patterns ms) → WordsRefusedFor words kind
    → kind ≡ kinds.Pattern
words_accepted words ms kind spelled few valid (inl none) = absurd (none.1 ms spelled)
words_accepted words ms kind spelled few valid (inr list) = grind (arith, common_steps, one_list_of_words)

list_kind : (ms : List Matcher) (kind other : Kind) → ListRefusedFor ms kind
    → ListRefusedFor ms other → kind ≢ kinds.Pattern → other ≢ kinds.Pattern → kind ≡ other
list_kind ms kind other (inl many) (inl more) h k = many.1 ∙ sym more.1
list_kind ms kind other (inl many) (inr patterns) h k = absurd (omega (arith, many.0, patterns.0))
list_kind ms kind other (inr patterns) (inl many) h k = absurd (omega (arith, many.0, patterns.0))
list_kind ms kind other (inr patterns) (inr again) h k =
    profile_kind ms kind patterns.1 h ∙ sym (profile_kind ms other again.1 k)

-- words are refused with at most one kind
pub words_kind : (words : List (List ℕ)) (kind other : Kind) → WordsRefusedFor words kind
    → WordsRefusedFor words other → kind ≢ kinds.Pattern → other ≢ kinds.Pattern → kind ≡ other
words_kind words kind other (inl none) (inl nothing) h k = none.0 ∙ sym nothing.0
words_kind words kind other (inl none) (inr list) h k = absurd (none.1 list.list list.spelled)
words_kind words kind other (inr list) (inl none) h k = absurd (none.1 list.list list.spelled)
words_kind words kind other (inr list) (inr again) h k =
    list_kind again.list kind other
    (subst (λ (l : List Matcher). ListRefusedFor l kind)
    (one_list_of_words words list.list again.list list.spelled again.spelled) list.refused)
    again.refused h k

-- ---- Label sets.

-- words that spell a label set are not refused as one
pub set_accepted : (words : List (List ℕ)) (set : LabelMap) (kind : Kind) → WordsSpellSet words set
    → SetWordsRefusedFor words kind → ⊥
set_accepted words set kind set_text refused =
    grind (arith, common_steps, one_list_of_words)

-- words are refused as a label set with at most one kind
pub set_kind : (words : List (List ℕ)) (kind other : Kind) → SetWordsRefusedFor words kind
    → SetWordsRefusedFor words other → kind ≢ kinds.Pattern → other ≢ kinds.Pattern → kind ≡ other
set_kind words kind other (inl refused) (inl again) h k = words_kind words kind other refused again h k
set_kind words kind other (inl refused) (inr gives) h k =
    absurd (h (words_accepted words gives.list kind gives.spelled gives.at_most gives.valid_patterns
    refused))
set_kind words kind other (inr gives) (inl refused) h k =
    absurd (k (words_accepted words gives.list other gives.spelled gives.at_most gives.valid_patterns
    refused))
set_kind words kind other (inr gives) (inr also) h k = grind (arith, common_steps, one_list_of_words)
