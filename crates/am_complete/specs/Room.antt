-- Why a universe that keeps the labels of a space and covers each label that is asked about is
-- perhaps not made: there is no room for some labels, or a label is unproved.
use Rattle.std.specs.Prelude.{◌≡◌, ◌≢◌, ◌⊎◌, ◌<◌, ◌≤◌, ◌+◌, ℕ, List, [], ◌∷◌, ◌++◌, Some, Contains}
use Rattle.std.specs.Prelude.{IsTrue, false, length, slice_get}
use Rattle.std.specs.List.{AllByRecursion, IsDistinct}
use Rattle.am_universe.specs.declared.limits.TheConstants.{MAX_LABELS, MAX_VALUES}
use Rattle.am_universe.specs.Text.{same_text}
use Rattle.am_universe.specs.Universe.{names}
use Rattle.am_labels.specs.Space.{Space}
use Rattle.am_classes.specs.declared.alphabet.Alphabet.{Alphabet}
use Rattle.am_classes.specs.Limits.{MayBePastLimits}
use Rattle.am_complete.specs.AskedLabel.{AskedLabel, asked_names}
use Rattle.am_complete.specs.Covering.{AreNeeded, standing_texts}
use Rattle.am_complete.specs.declared.allowed_names.AllowedNames.{AllowedNames}
use Rattle.am_complete.specs.AllowedNames.{may_declare, MayHaveLabel}

-- A label needs a further text: it may have a text over an alphabet that is alike to none that
-- stands for it in a space.
-- Source: own choice.
-- Example: if `team="db"` is asked, `team` needs one if it is not declared, and none if it may be
-- `db` or absent.
abbrev pub NeedsText : Alphabet → Space → AskedLabel → Type 0
NeedsText a s l = (text : List ℕ) × AreNeeded a s l.name l.matchers (text ∷ [])

-- A label needs more values than a label may have: a universe may have the label, and the texts
-- that stand there and the texts that it needs beside them are more.
-- Source: own choice.
-- Example: `team` does if it is not declared and 1,024 matchers `=` on it are asked, each with a
-- different text that is not empty. With absence these are 1,025 values.
abbrev pub NeedsTooManyValues : Alphabet → AllowedNames → Space → AskedLabel → Type 0
NeedsTooManyValues a allowed s l =
    (texts : List (List ℕ)) × MayHaveLabel allowed s.labels l.name
    × AreNeeded a s l.name l.matchers texts
    × (MAX_VALUES < length (standing_texts s l.name ++ texts))

-- A label has to be declared beside those of a space: its name may be declared, it is not declared
-- yet, and it needs a text.
abbrev pub HasToBeDeclared : Alphabet → AllowedNames → Space → AskedLabel → Type 0
HasToBeDeclared a allowed s l =
    IsTrue (may_declare allowed l.name) × (Contains (names s.labels) l.name → ⊥)
    × NeedsText a s l

-- There is no room for some labels beside those of a space: one of them needs more values than a
-- label may have, or those that have to be declared, together with those of the space, are more
-- than a universe may have.
-- Source: own choice.
-- Example: if 65 labels are asked about, each with one matcher `=`, and nothing is impossible,
-- there is no room.
abbrev pub HaveTooManyValues : Alphabet → AllowedNames → Space → List AskedLabel → Type 0
HaveTooManyValues a allowed s asked =
    (l : AskedLabel) × Contains asked l × NeedsTooManyValues a allowed s l

abbrev pub AreTooMany : Alphabet → AllowedNames → Space → List AskedLabel → Type 0
AreTooMany a allowed s asked =
    (declared : List AskedLabel) × (MAX_LABELS < length s.labels + length declared)
    × AllByRecursion (λ l. Contains asked l × HasToBeDeclared a allowed s l) declared
    × IsDistinct same_text (asked_names declared)

abbrev pub HaveNoRoom : Alphabet → AllowedNames → Space → List AskedLabel → Type 0
HaveNoRoom a allowed s asked = HaveTooManyValues a allowed s asked ⊎ AreTooMany a allowed s asked

-- A label may be unproved: perhaps its classes cannot be computed; or it needs a text, and its name
-- may not be declared. If each pattern on it is made of plain characters, `.*` and bars, the
-- classes cannot be computed only if there are too many states or classes. If any name may be
-- declared, no label is unproved for its name.
-- Source: own choice.
-- Example: if `a:b="x"` is asked and nothing is impossible, `a:b` may be unproved for a universe
-- file. If only `team="db"` and `team=~"db.*|web"` are asked, `team` is never unproved.
abbrev pub MayBeUnproved : Alphabet → AllowedNames → Space → AskedLabel → Type 0
MayBeUnproved a allowed s l =
    MayBePastLimits a l.matchers
    ⊎ ((l.name ≢ []) × (may_declare allowed l.name ≡ false) × NeedsText a s l)

-- Positions of such labels among those that are asked about. The least position comes first.
-- Source: own choice.
-- Example: if `team="db"`, `a:b="x"` and `c:d="y"` are asked, they may be 1 and 2 for a universe
-- file, and not 2 and 1.
pub record AreUnproved (a : Alphabet) (allowed : AllowedNames) (s : Space) (asked : List AskedLabel)
    (positions : List ℕ) : Type 0 where
  pub each : (i : ℕ) → Contains positions i
      → (l : AskedLabel) × (slice_get asked i ≡ Some l) × MayBeUnproved a allowed s l
  pub first : (i k : ℕ) → slice_get positions 0 ≡ Some i → Contains positions k → i ≤ k
