-- What keeps the classes of texts from being computed: there are too many states or classes.
use Rattle.std.specs.Prelude.{◌≡◌, ◌<◌, ◌⊎◌, ℕ, List, Some, true, slice_get, length, Contains}
use Rattle.std.specs.Prelude.{IsSome}
use Rattle.std.specs.List.{AllByRecursion}
use Rattle.am_universe.specs.declared.limits.TheConstants.{MAX_VALUES}
use Rattle.am_labels.specs.Matcher.{Matcher}
use Rattle.am_labels.specs.Wildcards.{is_wildcards, wildcards_state}
use Rattle.am_scan.specs.WildcardStates.{HasManyStates}
use Rattle.am_classes.specs.declared.alphabet.Alphabet.{Alphabet}
use Rattle.am_classes.specs.declared.limits.TheConstants.{MAX_STATES}
use Rattle.am_classes.specs.Alike.{AreApart, HasOtherPattern}
use Rattle.am_classes.specs.Alphabet.{AreOver}
use Rattle.am_classes.specs.Fronts.{fronts_of}
use Rattle.am_classes.specs.Named.{AreEachOnce, named_over, other_patterns}
use Rattle.am_classes.specs.Utf8.{tail_of}

-- All patterns of some matchers that are no alternations of plain texts have wildcards alone.
-- Source: own choice: most patterns of configurations have.
-- Example: those of `team="db"` and `team=~"w.*"` do. `team=~"[a-c]"` does not.
abbrev pub HaveWildcardsAlone : List Matcher → Type 0
HaveWildcardsAlone ms = AllByRecursion (λ p. is_wildcards p ≡ true) (other_patterns ms)

-- Two ends of texts have the same state, for texts that are named and patterns with wildcards
-- alone: the same may come before both, and then the whole texts are named by the same and found by
-- the same patterns.
-- Source: own choice; the term is that of finite automata.
-- Example: for the named text `db` and the pattern `w.*`, the ends `a` and `c` have, and `b` and
-- `c` have not.
abbrev pub HaveSameState :
    Alphabet → List (List ℕ) → List (List ℕ) → List ℕ → List ℕ → Type 0
HaveSameState a named patterns x y =
    (tail_of a x ≡ tail_of a y) × (fronts_of named x ≡ fronts_of named y)
    × AllByRecursion (λ p. wildcards_state p x ≡ wildcards_state p y) patterns

-- The ends of texts over an alphabet have more states, for some matchers, than are explored: there
-- are more than `MAX_STATES` ends, no two of which have the same state.
-- Source: own choice.
-- Example: `team="db"` and `team=~"w.*"` have few. A matcher `=` with a text of 70,000 bytes has
-- many, beside one with `.*`.
pub record HaveManyStates (a : Alphabet) (ms : List Matcher) : Type 0 where
  pub named : List (List ℕ)
  pub patterns : List (List ℕ)
  pub ends : List (List ℕ)
  pub each_named : AreEachOnce (named_over a ms) named
  pub each_pattern : AreEachOnce (other_patterns ms) patterns
  pub many : MAX_STATES < length ends
  pub over : AllByRecursion (λ end. IsSome (tail_of a end)) ends
  pub apart : (i j : ℕ) (x y : List ℕ) → slice_get ends i ≡ Some x → slice_get ends j ≡ Some y
      → HaveSameState a named patterns x y → i ≡ j

-- One of the patterns has too many states by itself, or all matchers together have.
abbrev pub HaveTooManyStates : Alphabet → List Matcher → Type 0
HaveTooManyStates a ms =
    ((p : List ℕ) × Contains (other_patterns ms) p × HasManyStates p) ⊎ HaveManyStates a ms

-- Some matchers have more classes of texts over an alphabet than a label may have values.
-- Source: own choice.
-- Example: 1,024 matchers `=` with different texts have 1,025 classes.
abbrev pub HaveManyClasses : Alphabet → List Matcher → Type 0
HaveManyClasses a ms =
    (texts : List (List ℕ)) × (MAX_VALUES < length texts) × AreOver a texts × AreApart ms texts

-- The classes of texts may be past the limits, for some matchers: a matcher takes a pattern that is
-- no alternation of plain texts, and if all such patterns have wildcards alone, there are too many
-- states or classes.
-- Source: own choice.
-- Example: this is never so for `team="db"` and `team=~"w.*|.*x"`. It may be for `team=~"[a-c]"`,
-- of which nothing is promised.
pub record MayBePastLimits (a : Alphabet) (ms : List Matcher) : Type 0 where
  pub pattern : HasOtherPattern ms
  pub past : HaveWildcardsAlone ms → HaveTooManyStates a ms ⊎ HaveManyClasses a ms
