-- Why a matcher, a list of matchers or the words of a list are refused. Running out of memory is
-- not one of these reasons.
use Rattle.std.specs.Prelude.{◌≡◌, ◌≢◌, ℕ, ◌<◌, ◌≤◌, List, [], ◌∷◌, ◌++◌, length, Bool, not}
use Rattle.std.specs.Prelude.{◌&&◌, ◌||◌, if◌then◌else◌, IsTrue, ◌⊎◌}
use Rattle.std.specs.List.{list_all}
use Rattle.am_universe.specs.declared.kind.Kind.{Kind}
use Rattle.am_universe.specs.declared.kind.Kind.TheVariants as kinds
use Rattle.am_labels.specs.Pattern.{is_pattern}
use Rattle.am_labels.specs.PatternProfile.{in_profile}
use Rattle.am_labels.specs.declared.limits.TheConstants.{MAX_MATCHERS}
use Rattle.am_labels.specs.Matcher.{Matcher, takes_pattern}
use Rattle.am_labels.specs.MatcherText.{WordsSpell}

-- A matcher has a valid pattern, if its operator takes one: the value is in the profile, and the
-- grammar reads it. `have_valid_patterns` says so of each matcher of a list.
abbrev pub has_valid_pattern : Matcher → Bool
has_valid_pattern m = not (takes_pattern m.op) || in_profile m.value && is_pattern m.value

abbrev pub have_valid_patterns : List Matcher → Bool
have_valid_patterns ms = list_all has_valid_pattern ms

-- Why a pattern is refused: it is outside the profile, which is `PatternProfile`; or it is in the
-- profile, and the engine does not build it, which is `Pattern`.
abbrev pub pattern_refusal : List ℕ → Kind
pattern_refusal pattern = if in_profile pattern then kinds.Pattern else kinds.PatternProfile

-- The value of a matcher is refused. Only a pattern can be refused. The engine decides which
-- patterns of the profile it refuses.
pub record ValueRefusedFor (m : Matcher) (kind : Kind) : Type 0 where
  pub pattern : IsTrue (takes_pattern m.op)
  pub kind_is : kind ≡ pattern_refusal m.value

-- A matcher is refused: its name is empty, which is `Empty`; or else its value is refused.
abbrev pub MatcherRefusedFor : Matcher → Kind → Type 0
MatcherRefusedFor m kind =
    ((m.name ≡ []) × (kind ≡ kinds.Empty))
    ⊎ ((m.name ≢ []) × ValueRefusedFor m kind)

-- A list is refused because of the value of one matcher, and the patterns of the matchers before it
-- are valid.
pub record PatternsRefusedFor (ms : List Matcher) (kind : Kind) : Type 0 where
  pub before : List Matcher
  pub refused : Matcher
  pub after : List Matcher
  pub parts : ms ≡ before ++ refused ∷ after
  pub earlier : IsTrue (have_valid_patterns before)
  pub value : ValueRefusedFor refused kind

-- A list is refused: it has more than `MAX_MATCHERS` matchers, which is `Limit`; or else one of its
-- patterns is refused.
abbrev pub ListRefusedFor : List Matcher → Kind → Type 0
ListRefusedFor ms kind =
    ((MAX_MATCHERS < length ms) × (kind ≡ kinds.Limit))
    ⊎ ((length ms ≤ MAX_MATCHERS) × PatternsRefusedFor ms kind)

-- Words spell a list that is refused.
pub record WordsSpellListRefusedFor (words : List (List ℕ)) (kind : Kind) : Type 0 where
  pub list : List Matcher
  pub spelled : WordsSpell words list
  pub refused : ListRefusedFor list kind

-- Words are refused: they spell no list, which is `BadMatcher`; or else the list that they spell is
-- refused. A text is refused as a single word is.
abbrev pub WordsRefusedFor : List (List ℕ) → Kind → Type 0
WordsRefusedFor words kind =
    ((kind ≡ kinds.BadMatcher) × ((ms : List Matcher) → WordsSpell words ms → ⊥))
    ⊎ WordsSpellListRefusedFor words kind

abbrev pub TextRefusedFor : List ℕ → Kind → Type 0
TextRefusedFor text kind = WordsRefusedFor (text ∷ []) kind
