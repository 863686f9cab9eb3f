-- Universes that are made from what matchers ask, beside the labels and values of a space.
use Rattle.std.specs.Prelude.{◌≡◌, ◌≢◌, ◌⊎◌, ◌<◌, ℕ, List, [], ◌∷◌, ◌++◌, length, Contains, IsTrue}
use Rattle.std.specs.Prelude.{Option, Some, None, IfSome, slice_get, ⊤, Bool}
use Rattle.std.specs.List.{filter, find, AllByRecursion}
use Rattle.am_universe.specs.declared.kind.Kind.{Kind}
use Rattle.am_universe.specs.declared.kind.Kind.TheVariants as kinds
use Rattle.am_universe.specs.declared.limits.TheConstants.{MAX_LABELS, MAX_VALUES}
use Rattle.am_universe.specs.Text.{same_text}
use Rattle.am_universe.specs.Universe.{Label, Values, names}
use Rattle.am_labels.specs.Matcher.{Matcher}
use Rattle.am_labels.specs.Space.{Space}
use Rattle.am_classes.specs.declared.alphabet.Alphabet.{Alphabet}
use Rattle.am_classes.specs.Alphabet.{IsOver, AreOver}
use Rattle.am_classes.specs.Alike.{HasAlikeIn, Covers, AreApart}
use Rattle.am_complete.specs.Complete.{about, label_texts, texts_of_label, may_have}
use Rattle.am_complete.specs.AskedLabel.{AskedLabel, asked_names}

-- Some texts stand for classes of texts that matchers cannot tell apart: they are over an alphabet,
-- and no two are alike. If `all`, they stand for all classes: each text over the alphabet is alike
-- to one of them.
-- Source: own choice.
-- Example: to `team="db"` alone, `db` and the empty text stand for all classes, and `db` for one.
pub record AreClasses (a : Alphabet) (ms : List Matcher) (texts : List (List ℕ))
    (all : Bool) : Type 0 where
  pub covers : IsTrue all → Covers a ms texts
  pub apart : AreApart ms texts
  pub over : AreOver a texts

-- Some texts cover all texts over an alphabet that a label may have: whatever such text there is,
-- one of them is alike to it.
-- Source: own choice.
-- Example: to `team="db"`, if `team!="db"` is impossible, `db` alone covers all.
abbrev pub CoverPossible :
    Alphabet → List (List Matcher) → List ℕ → List Matcher → List (List ℕ) → Type 0
CoverPossible a impossible name ms texts =
    (text : List ℕ) → IsOver a text → IsTrue (may_have impossible name text)
    → HasAlikeIn ms texts text

-- Some texts are over an alphabet, a label may have each of them, and no two are alike.
-- Source: own choice.
-- Example: to `team="db"` alone, `db` and `web` are such texts. If `team=web` is impossible, they
-- are not.
pub record ArePossible (a : Alphabet) (impossible : List (List Matcher)) (name : List ℕ)
    (ms : List Matcher) (texts : List (List ℕ)) : Type 0 where
  pub over : AreOver a texts
  pub possible : AllByRecursion (λ text. IsTrue (may_have impossible name text)) texts
  pub apart : AreApart ms texts

-- The texts that stand in a space for a label: its values, where absence is the empty text. For a
-- label that is not declared, only absence stands there, if it is possible.
-- Source: own choice.
-- Example: for `env`, which is not declared, the empty text stands there. If `env=""` is
-- impossible, no text does.
abbrev pub standing_in : List (List Matcher) → List ℕ → Option Label → List (List ℕ)
standing_in impossible name None = filter (may_have impossible name) ([] ∷ [])
standing_in impossible name (Some label) = texts_of_label (Some label)

abbrev pub standing_texts : Space → List ℕ → List (List ℕ)
standing_texts s name = standing_in s.impossible name (find (λ l. same_text l.name name) s.labels)

-- A label needs each of some texts beside those that stand in a space: the label may have them,
-- they are over an alphabet, no two are alike, and none is alike to one that stands there.
-- Source: own choice.
-- Example: if `team` may be `db` alone, it needs `web` for `team="db"`, and then not `ops` too.
pub record AreNeeded (a : Alphabet) (s : Space) (name : List ℕ) (ms : List Matcher)
    (texts : List (List ℕ)) : Type 0 where
  pub possible : ArePossible a s.impossible name ms texts
  pub new : AllByRecursion (λ text. HasAlikeIn ms (standing_texts s name) text → ⊥) texts

-- In a universe, the texts of each label that is asked about cover all that the label may have,
-- except for labels at some positions. Nothing is said about the empty name.
-- Source: own choice.
-- Example: if `team="db"` and `a:b="x"` are asked, a universe in which `team` has `db` and absence
-- does so, except for the second label.
abbrev pub CoversEachBut :
    Alphabet → List (List Matcher) → List Label → List AskedLabel → List ℕ → Type 0
CoversEachBut a impossible u asked unproved =
    (i : ℕ) (l : AskedLabel) → slice_get asked i ≡ Some l
    → (Contains unproved i → ⊥) → l.name ≢ []
    → CoverPossible a impossible l.name l.matchers (label_texts u l.name)

-- A universe keeps the labels of another: each is at its position, and its values come first.
-- Source: own choice.
-- Example: a universe with `team`, which may be `db`, `web` or absent, and with `env` keeps the
-- labels of one with `team` alone, which may be `db`.
abbrev pub KeepsValues : Label → Label → Type 0
KeepsValues l m = (m.name ≡ l.name) × ((added : Values) × (m.values ≡ l.values ++ added))

abbrev pub KeepsLabels : List Label → List Label → Type 0
KeepsLabels [] v = ⊤
KeepsLabels (l ∷ u) [] = ⊥
KeepsLabels (l ∷ u) (m ∷ v) = KeepsValues l m × KeepsLabels u v

-- Each label of a universe has the texts that stand for it in a space, and after them texts that it
-- needs for some matchers. A label that needs none is a label of the space.
-- Source: own choice.
-- Example: for `team="db"` alone and a space without labels, this is so if `team` has absence and
-- `db`. It is not if `team` has `web` too, or if there is `env`, which is always absent.
abbrev pub HasNeeded : Alphabet → Space → List Matcher → Label → Type 0
HasNeeded a s ms l =
    (needed : List (List ℕ)) × AreNeeded a s l.name (about l.name ms) needed
    × (texts_of_label (Some l) ≡ standing_texts s l.name ++ needed)
    × (needed ≡ [] → Contains (names s.labels) l.name)

abbrev pub AddsNeeded : Alphabet → Space → List Matcher → List Label → Type 0
AddsNeeded a s ms u = AllByRecursion (HasNeeded a s ms) u

-- The labels of a universe are those of another, followed by labels that are asked about, in the
-- order in which they are asked about.
-- Source: own choice.
-- Example: if `env` is declared, and `team`, `env` and `host` are asked about, they may be `env`,
-- `team` and `host`, or `env` and `host`. They are never `env`, `host` and `team`.
abbrev pub AddsInOrder : List Label → List AskedLabel → List Label → Type 0
AddsInOrder u asked v =
    (is_added : List ℕ → Bool) × (names v ≡ names u ++ filter is_added (asked_names asked))

-- The texts that the labels of a universe may have are over an alphabet.
-- Source: RFC 8259, section 8.1: JSON text, in which they are written, is UTF-8.
-- Example: in a universe where each label is always absent, they are over each alphabet.
abbrev pub HasTextsOver : Alphabet → List Label → Type 0
HasTextsOver a u = AllByRecursion (λ l. AllByRecursion (λ v. IfSome v (IsOver a)) l.values) u

-- The labels of one universe are those of another, followed by one with a name and texts. Absence
-- is the empty text.
abbrev pub IsWithLabel : List Label → List Label → List ℕ → List (List ℕ) → Type 0
IsWithLabel u v name texts =
    (l : Label) × (v ≡ u ++ l ∷ []) × (l.name ≡ name) × (texts_of_label (Some l) ≡ texts)

-- A universe has no room for a label with some texts.
abbrev pub IsFullFor : List Label → List (List ℕ) → Type 0
IsFullFor u texts = (length u ≡ MAX_LABELS) ⊎ (MAX_VALUES < length texts)

-- Why no universe is made, or no label is declared: there is no room for it, or no memory.
abbrev pub IsLimitOrMemory : Kind → Type 0
IsLimitOrMemory kind = (kind ≡ kinds.Limit) ⊎ (kind ≡ kinds.Memory)
