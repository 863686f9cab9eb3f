-- The label set that the words of a list of matchers give, and why they give none.
use Rattle.std.specs.Prelude.{◌≡◌, ℕ, ◌≤◌, List, [], ◌∷◌, length, Bool, true, false, ◌||◌}
use Rattle.std.specs.Prelude.{fold, IsTrue, ◌⊎◌}
use Rattle.std.specs.List.{list_all, list_any}
use Rattle.std.specs.FinMap as finite
use Rattle.am_universe.specs.declared.kind.Kind.{Kind}
use Rattle.am_universe.specs.declared.kind.Kind.TheVariants as kinds
use Rattle.am_universe.specs.Text.{same_text}
use Rattle.am_universe.specs.LabelSet.{LabelMap, with_value}
use Rattle.am_labels.specs.declared.limits.TheConstants.{MAX_MATCHERS}
use Rattle.am_labels.specs.Matcher.{Matcher, is_equality}
use Rattle.am_labels.specs.MatcherText.{WordsSpell}
use Rattle.am_labels.specs.MatcherRefusals.{have_valid_patterns, WordsRefusedFor}

-- Each operator of a list is `=`.
abbrev pub are_equalities : List Matcher → Bool
are_equalities ms = list_all (λ m. is_equality m.op) ms

-- A name occurs twice.
abbrev pub repeats_name : List Matcher → Bool
repeats_name [] = false
repeats_name (m ∷ ms) =
    list_any (λ other. same_text other.name m.name) ms || repeats_name ms

-- The set in which each name has its value. An empty value leaves the label out.
abbrev pub set_of_list : List Matcher → LabelMap
set_of_list ms = fold (λ s m. with_value s m.name m.value) finite.empty ms

-- Words give a label set: that of the list that they spell. The list has at most `MAX_MATCHERS`
-- matchers, each with `=`, and no name occurs twice.
-- Source: own choice.
-- Example: the one word `team="db",severity=""` gives the set with `team` alone, and so do the two
-- words `team=db` and `severity=`.
pub record WordsSpellSet (words : List (List ℕ)) (set : LabelMap) : Type 0 where
  pub list : List Matcher
  pub spelled : WordsSpell words list
  pub at_most : length list ≤ MAX_MATCHERS
  pub equalities : IsTrue (are_equalities list)
  pub distinct : repeats_name list ≡ false
  pub set_is : set ≡ set_of_list list

-- A list of matchers gives no set: an operator is not `=`, which is `BadMatcher`; or else a name
-- occurs twice, which is `Duplicate`.
abbrev pub SetRefusedFor : List Matcher → Kind → Type 0
SetRefusedFor ms kind =
    ((are_equalities ms ≡ false) × (kind ≡ kinds.BadMatcher))
    ⊎ ((are_equalities ms ≡ true) × (repeats_name ms ≡ true) × (kind ≡ kinds.Duplicate))

-- Words spell a list that is not refused as a list of matchers, but gives no set.
pub record WordsSpellSetRefusedFor (words : List (List ℕ)) (kind : Kind) : Type 0 where
  pub list : List Matcher
  pub spelled : WordsSpell words list
  pub at_most : length list ≤ MAX_MATCHERS
  pub valid_patterns : IsTrue (have_valid_patterns list)
  pub refused : SetRefusedFor list kind

-- Words are refused as a label set: they are refused as a list of matchers, or that list gives no
-- set.
abbrev pub SetWordsRefusedFor : List (List ℕ) → Kind → Type 0
SetWordsRefusedFor words kind = WordsRefusedFor words kind ⊎ WordsSpellSetRefusedFor words kind
