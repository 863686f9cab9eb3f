-- What the labels that are asked about lack in a space, and the labels that are made from it.
use Rattle.std.specs.Prelude.{◌≡◌, ◌≢◌, ◌⊎◌, ◌<◌, ℕ, List, [], ◌∷◌, ◌++◌, map, length, Contains}
use Rattle.std.specs.Prelude.{Option, Some, None, Bool, true, false, not, ◌&&◌, ◌||◌, IsTrue}
use Rattle.std.specs.List.{find, filter, AllZip, IsDistinct, enumerate_from}
use Rattle.am_universe.specs.declared.limits.TheConstants.{MAX_LABELS, MAX_VALUES}
use Rattle.am_universe.specs.Text.{same_text}
use Rattle.am_universe.specs.Universe.{Label}
use Rattle.am_labels.specs.Space.{Space}
use Rattle.am_classes.specs.declared.alphabet.Alphabet.{Alphabet}
use Rattle.am_classes.specs.Limits.{MayBePastLimits}
use Rattle.am_complete.specs.Complete.{texts_of_label}
use Rattle.am_complete.specs.AskedLabel.{AskedLabel}
use Rattle.am_complete.specs.Covering.{AreNeeded, CoverPossible, standing_texts}
use Rattle.am_complete.specs.LabelState.{HasClasses, is_declared}
use Rattle.am_complete.specs.declared.allowed_names.AllowedNames.{AllowedNames}
use Rattle.am_complete.specs.AllowedNames.{may_declare}

-- A label's name, whether a universe may declare it, texts that the label lacks, whether these are
-- all that it lacks, and if they are, the number of classes of texts that it may have.
pub record MissingTexts : Type 0 where
  pub name : List ℕ
  pub named : Bool
  pub texts : List (List ℕ)
  pub all : Bool
  pub count : ℕ

-- A label lacks these texts in a space. If they are all, they and those that stand there cover all
-- that it may have.
pub record IsMissingAt (a : Alphabet) (allowed : AllowedNames) (s : Space) (l : AskedLabel)
    (m : MissingTexts) : Type 0 where
  pub name : m.name ≡ l.name
  pub some_name : l.name ≢ []
  pub named : m.named ≡ may_declare allowed l.name
  pub needed : AreNeeded a s l.name l.matchers m.texts
  pub cover : IsTrue m.all
      → CoverPossible a s.impossible l.name l.matchers (standing_texts s l.name ++ m.texts)
  pub classes : IsTrue m.all → HasClasses a s.impossible l.name l.matchers m.count
  pub limits : m.all ≡ false → MayBePastLimits a l.matchers

abbrev pub AreMissing :
    Alphabet → AllowedNames → Space → List AskedLabel → List MissingTexts → Type 0
AreMissing a allowed s asked missing = AllZip (IsMissingAt a allowed s) asked missing

-- The texts that the label of a name lacks: none if it is not asked about.
abbrev pub texts_of_missing : Option MissingTexts → List (List ℕ)
texts_of_missing None = []
texts_of_missing (Some m) = m.texts

abbrev pub missing_for : List MissingTexts → List ℕ → Option MissingTexts
missing_for missing name = find (λ m. same_text m.name name) missing

-- The texts of the label of a name: those that stand in a space, followed by those that it lacks
-- there.
abbrev pub whole_texts : Space → List MissingTexts → List ℕ → List (List ℕ)
whole_texts s missing name = standing_texts s name ++ texts_of_missing (missing_for missing name)

abbrev pub IsWhole : Space → List MissingTexts → Label → Type 0
IsWhole s missing l = texts_of_label (Some l) ≡ whole_texts s missing l.name

-- A universe has to declare a label, and may: its name may be declared, and it lacks texts. A
-- universe with these texts covers the label: they are all that it lacks, and it may declare the
-- label if it has to.
abbrev pub has_some : List (List ℕ) → Bool
has_some [] = false
has_some (t ∷ texts) = true

abbrev pub needs_label : MissingTexts → Bool
needs_label m = m.named && has_some m.texts

abbrev pub is_covered : MissingTexts → Bool
is_covered m = m.all && (m.named || not (has_some m.texts))

-- The names of the labels that have to be declared, and that a universe does not declare.
abbrev pub is_to_declare : List Label → MissingTexts → Bool
is_to_declare u m = needs_label m && not (is_declared u m.name)

abbrev pub names_to_declare : List Label → List MissingTexts → List (List ℕ)
names_to_declare u missing = map (λ m. m.name) (filter (is_to_declare u) missing)

-- A label of this name can be declared with its texts, if there is room.
abbrev pub CanBeDeclared : Space → List MissingTexts → List ℕ → Type 0
CanBeDeclared s missing name =
    (name ≢ []) × (whole_texts s missing name ≢ [])
    × IsDistinct same_text (whole_texts s missing name)

-- There is no room: a label has more texts than a label may have values, or the labels are too
-- many.
abbrev pub AreTooLarge : Space → List MissingTexts → List (List ℕ) → Type 0
AreTooLarge s missing ns =
    (MAX_LABELS < length ns)
    ⊎ ((name : List ℕ) × Contains ns name × (MAX_VALUES < length (whole_texts s missing name)))

-- The positions of the labels that a universe with their texts may not cover, in order. Positions
-- count from a number, or from 0.
abbrev pub opens_from : ℕ → List MissingTexts → List ℕ
opens_from from missing =
    map (λ p. p.0) (filter (λ p. not (is_covered p.1)) (enumerate_from from missing))

abbrev pub open_positions : List MissingTexts → List ℕ
open_positions missing = opens_from 0 missing
